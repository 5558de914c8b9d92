-- The document of a flat list: one list with an entry for each address. RFC 4826, section 3.2.
use Rattle.std.specs.Prelude.{ℕ, nat_lt, min, List, [], ◌∷◌, codes, map, Result, Ok, Err}
use Rattle.std.specs.Prelude.{if◌then◌else◌}
use Rattle.xml_tree.specs.Tree.{Tree, tree_of, content_of_children}
use Rattle.xml_names.specs.Limits.{u64_max}
use Rattle.xml_names.specs.Scopes.{decl_from_parts}
use Rattle.xml_names.specs.ExpandedNames.{name_from_parts}
use Rattle.usage_docs.specs.SchemaTable.{lists_namespace}
use Rattle.usage_docs.specs.Services.{document_len}
use Rattle.list_resolve.specs.declared.flat_documents.TheConstants.{DOCUMENT_LIMIT}
use Rattle.list_resolve.specs.declared.fault.FlatFault.{FlatFault}
use Rattle.list_resolve.specs.declared.fault.FlatFault.TheVariants.{TooLarge}

-- `<entry uri="U"/>`
abbrev pub entry_tree : List ℕ → Tree
entry_tree uri =
    tree_of (name_from_parts [] (codes "entry")) []
    (record { name = name_from_parts [] (codes "uri"); value = uri } ∷ []) (content_of_children [])

-- `<list>`, the entries in order, `</list>`
abbrev pub list_tree : List (List ℕ) → Tree
list_tree uris =
    tree_of (name_from_parts [] (codes "list")) [] [] (content_of_children (map entry_tree uris))

-- the root, with this list and nothing else
abbrev pub flat_tree : List (List ℕ) → Tree
flat_tree uris =
    tree_of (name_from_parts [] (codes "resource-lists"))
    (decl_from_parts [] lists_namespace ∷ []) []
    (content_of_children (list_tree uris ∷ []))

-- the document of a flat list, unless it would have more than `DOCUMENT_LIMIT` bytes, printed
abbrev pub flat_document : List (List ℕ) → Result Tree FlatFault
flat_document uris =
    if nat_lt DOCUMENT_LIMIT (document_len (flat_tree uris))
    then Err (TooLarge (min (document_len (flat_tree uris)) u64_max))
    else Ok (flat_tree uris)
