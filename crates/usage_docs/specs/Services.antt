-- The addresses of a document's services, and the index of the services of many documents. RFC
-- 4826, sections 4.4 and 4.4.7 to 4.4.8 (the global document rls-services/global/index).
use Rattle.std.specs.Prelude.{◌≡◌, ℕ, ◌+◌, ◌<◌, min, Bool, List, [], ◌∷◌, ◌++◌, Option, codes, map}
use Rattle.std.specs.Prelude.{filter, filter_map, flat_map, is_some, option_and_then}
use Rattle.xml_tree.specs.Tree.{Tree, tree_of, child_elements_of}
use Rattle.xml_tree.specs.Nodes.{content_of}
use Rattle.xml_names.specs.Scopes.{in_scope_bindings}
use Rattle.xml_tree.specs.TreeScopes.{inside}
use Rattle.xml_names.specs.Markup.{byte_len}
use Rattle.xml_tree.specs.Print.{print}
use Rattle.xml_names.specs.declared.names.Name.{Name}
use Rattle.xml_names.specs.declared.names.Decl.{Decl}
use Rattle.xml_tree.specs.declared.tree.Node.TheVariants.{Elem}
use Rattle.xml_names.specs.Limits.{u64_max}
use Rattle.usage_docs.specs.declared.schema_table.ElementKind.TheVariants.{RlsServices}
use Rattle.usage_docs.specs.declared.schema_table.Key.TheVariants.{Uri}
use Rattle.usage_docs.specs.declared.service_index.IndexFault.{IndexFault}
use Rattle.usage_docs.specs.declared.service_index.TheConstants.{INDEX_LIMIT}
use Rattle.usage_docs.specs.declared.service_index.IndexFault.TheVariants.{TooLarge}
use Rattle.usage_docs.specs.SchemaTable.{Scope, kind_of, services_namespace}
use Rattle.usage_docs.specs.KeyAttributes.{value_of}

-- whether a child of a root is a service, in the scope inside the root
abbrev pub is_service : Scope → Tree → Bool
is_service c e = is_some (kind_of RlsServices (inside c e) e.name)

-- the address of a child of a root, if it is a service and has one
unfoldable pub service_uri : Scope → Tree → Option (List ℕ)
service_uri c e =
    option_and_then (λ _. value_of Uri e.attrs) (kind_of RlsServices (inside c e) e.name)

-- the addresses of a document's services, in order
abbrev pub service_uris : Tree → List (List ℕ)
service_uris t = filter_map (service_uri (t.decls ∷ [])) (child_elements_of t)

-- ---- the index

-- a service as the index lists it: with all bindings in scope in its own document
abbrev pub listed_service : Scope → Tree → Tree
listed_service c e = tree_of e.name (in_scope_bindings (inside c e)) e.attrs e.content

-- the services of a document, as the index lists them
abbrev pub service_elements : Tree → List Tree
service_elements t =
    map (listed_service (t.decls ∷ [])) (filter (is_service (t.decls ∷ [])) (child_elements_of t))

-- the name and the one declaration of the index
unfoldable pub index_name : Name
index_name = record { prefix = codes "rls"; local = codes "rls-services" }

unfoldable pub index_decls : List Decl
index_decls = record { prefix = codes "rls"; uri = services_namespace } ∷ []

-- the index of these services
abbrev pub index_of : List Tree → Tree
index_of ss = tree_of index_name index_decls [] (content_of (map Elem ss))

-- the index of the services of these documents
abbrev pub index_of_documents : List Tree → Tree
index_of_documents ts = index_of (flat_map service_elements ts)

-- the print of the index, without the line before the root
abbrev pub index_text : List Tree → List ℕ
index_text [] = codes "<rls:rls-services xmlns:rls=\"urn:ietf:params:xml:ns:rls-services\"/>"
index_text (s ∷ ss) =
    codes "<rls:rls-services xmlns:rls=\"urn:ietf:params:xml:ns:rls-services\">"
    ++ flat_map print (s ∷ ss)
    ++ codes "</rls:rls-services>"

-- the length of a document's print, which has 39 bytes before its root: `<?xml version="1.0"
-- encoding="UTF-8"?>` and a line end
abbrev pub document_len : Tree → ℕ
document_len t = 39 + byte_len (print t)

-- the length of the index, printed
abbrev pub index_len : List Tree → ℕ
index_len ss = document_len (index_of ss)

-- no index with these services is allowed: it would have this length
abbrev pub RefusesServices : List Tree → IndexFault → Type 0
RefusesServices ss (TooLarge len) =
    (INDEX_LIMIT < index_len ss) × (len ≡ min (index_len ss) u64_max)
