-- The addresses among nodes are the addresses of the elements among them.
use Rattle.std.proofs.Common.{◌≡◌, List, [], ◌∷◌, filter_map, refl, ap, sym, ◌∙◌}
use Rattle.xml_tree.specs.Tree.{Content, child_elements}
use Rattle.xml_tree.specs.Nodes.{content_of}
use Rattle.xml_tree.specs.declared.tree.Node.{Node}
use Rattle.xml_tree.specs.declared.tree.Node.TheVariants.{Elem, Chars, Comment}
use Rattle.usage_docs.specs.SchemaTable.{Scope}
use Rattle.usage_docs.specs.Services.{service_uri}
use Rattle.usage_docs.specs.readers.SiblingElements.{node_children}
use Rattle.usage_docs.specs.readers.ServiceUris.{node_uri}
use Rattle.usage_docs.proofs.ClashLemmas.{kids_are}

nodes_uris : (c : Scope) (ns : List Node) → filter_map (node_uri c) ns ≡ filter_map (service_uri c) (node_children ns)
nodes_uris c [] = refl
nodes_uris c (Elem e ∷ ns) = rw (nodes_uris c ns)
nodes_uris c (Chars t ∷ ns) = nodes_uris c ns
nodes_uris c (Comment x ∷ ns) = nodes_uris c ns

pub uris_are : (c : Scope) (ns : List Node) (content : Content) → content_of ns ≡ content → filter_map (node_uri c) ns ≡ filter_map (service_uri c) (child_elements content)
uris_are c ns content e = nodes_uris c ns ∙ ap (filter_map (service_uri c)) (sym (kids_are ns content e))
