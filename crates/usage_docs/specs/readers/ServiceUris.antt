-- What an iterator over services has left.
use Rattle.std.specs.Prelude.{ℕ, List, [], ◌∷◌, Option, None, filter_map}
use Rattle.xml_tree.specs.declared.tree.Node.{Node}
use Rattle.xml_tree.specs.declared.tree.Node.TheVariants.{Elem, Chars, Comment}
use Rattle.usage_docs.specs.declared.service_uris.ServiceUris.{ServiceUris}
use Rattle.usage_docs.specs.SchemaTable.{Scope}
use Rattle.usage_docs.specs.Services.{service_uri}

-- the address of a node, if it is a service
abbrev pub node_uri : Scope → Node → Option (List ℕ)
node_uri c (Elem e) = service_uri c e
node_uri c (Chars t) = None
node_uri c (Comment x) = None

-- the remaining addresses
abbrev pub remaining_uris : ServiceUris → List (List ℕ)
remaining_uris s = filter_map (node_uri (s.declared ∷ [])) s.nodes.now
