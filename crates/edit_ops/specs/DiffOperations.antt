-- The patch operation of a change record, as an element. RFC 5261, sections 4.3 to 4.5; RFC 5874,
-- section 3 has `add`, `replace` and `remove` in its namespace.
use Rattle.std.specs.Prelude.{ℕ, zero, suc, Bool, true, false, codes, List, [], ◌∷◌, ◌++◌}
use Rattle.xml_tree.specs.Tree.{Content, last, Tree, tree_of, content_of_children}
use Rattle.xml_names.specs.Markup.{print_name, byte_len}
use Rattle.xml_tree.specs.Print.{print}
use Rattle.xml_names.specs.declared.names.Name.{Name}
use Rattle.xml_names.specs.declared.names.Decl.{Decl}
use Rattle.xml_names.specs.declared.names.Attr.{Attr}
use Rattle.xml_tree.specs.PathTexts.{path_text}
use Rattle.xml_names.specs.ExpandedNames.{name_from_parts}
use Rattle.edit_ops.specs.declared.change.Change.{Change}
use Rattle.edit_ops.specs.declared.change.Change.TheVariants.{CreateDocument, Insert, Replace}
use Rattle.edit_ops.specs.declared.change.Change.TheVariants.{Remove, SetAttr, DropAttr}
use Rattle.edit_ops.specs.declared.change.Change.TheVariants.{RemoveDocument}
use Rattle.edit_ops.specs.Notes.{Note}

-- ---- the parts of an operation

-- an attribute without prefix
abbrev pub plain_attr : List ℕ → List ℕ → Attr
plain_attr local value = record { name = record { prefix = []; local = local }; value = value }

abbrev pub sel_attr : List ℕ → Attr
sel_attr value = plain_attr (codes "sel") value

-- the attribute of this name of the element at a path, as a selector; and its name as a type
abbrev pub attr_name_text : Name → List ℕ
attr_name_text name = codes "@" ++ print_name name

abbrev pub attr_path_text : List ℕ → Name → List ℕ
attr_path_text p name = path_text p ++ (codes "/" ++ attr_name_text name)

-- an operation: an element name in the diff's namespace, the record's bindings as declarations,
-- attributes and content
abbrev pub operation_of : List ℕ → List Decl → List ℕ → List Attr → Content → Tree
operation_of prefix bindings word attrs content =
    tree_of (name_from_parts prefix word) bindings attrs content

-- ---- the operation of a change

-- where an element is inserted: in gap 0 before all nodes of its parent, in another directly
-- after the child element before it
abbrev pub insertion_attrs : List ℕ → ℕ → List Attr
insertion_attrs parent zero =
    sel_attr (path_text parent) ∷ plain_attr (codes "pos") (codes "prepend") ∷ []
insertion_attrs parent (suc j) =
    sel_attr (path_text (parent ++ j ∷ [])) ∷ plain_attr (codes "pos") (codes "after") ∷ []

-- an attribute that is set: added if it is new, else replaced
abbrev pub set_operation_name : Bool → List ℕ
set_operation_name true = codes "add"
set_operation_name false = codes "replace"

abbrev pub set_attrs : List ℕ → Name → Bool → List Attr
set_attrs p name true =
    sel_attr (path_text p) ∷ plain_attr (codes "type") (attr_name_text name) ∷ []
set_attrs p name false = sel_attr (attr_path_text p name) ∷ []

-- the operation of a change, with the bindings of its place; creating or removing a document has
-- none, and an empty `remove` takes its place here
abbrev pub change_operation : List ℕ → List Decl → Bool → Change → Tree
change_operation prefix bindings fresh (CreateDocument root) =
    operation_of prefix bindings (codes "remove") [] (last [])
change_operation prefix bindings fresh (Insert parent gap element) =
    operation_of prefix bindings (codes "add") (insertion_attrs parent gap)
    (content_of_children (element ∷ []))
change_operation prefix bindings fresh (Replace p element) =
    operation_of prefix bindings (codes "replace") (sel_attr (path_text p) ∷ [])
    (content_of_children (element ∷ []))
change_operation prefix bindings fresh (Remove p) =
    operation_of prefix bindings (codes "remove") (sel_attr (path_text p) ∷ []) (last [])
change_operation prefix bindings fresh (SetAttr p name value) =
    operation_of prefix bindings (set_operation_name fresh) (set_attrs p name fresh) (last value)
change_operation prefix bindings fresh (DropAttr p name) =
    operation_of prefix bindings (codes "remove") (sel_attr (attr_path_text p name) ∷ []) (last [])
change_operation prefix bindings fresh RemoveDocument =
    operation_of prefix bindings (codes "remove") [] (last [])

-- the operation of a change record, where the diff's namespace has this prefix
abbrev pub operation : List ℕ → Note → Tree
operation prefix n = change_operation prefix n.bindings n.fresh n.change

-- ---- the weight of a change record

-- the length in bytes of the operation's text with the prefix `d`; 0 for a document that is
-- created or removed
abbrev pub weight_of : List Decl → Bool → Change → ℕ
weight_of bindings fresh (CreateDocument root) = 0
weight_of bindings fresh RemoveDocument = 0
weight_of bindings fresh change =
    byte_len (print (change_operation (codes "d") bindings fresh change))

abbrev pub weight : Note → ℕ
weight n = weight_of n.bindings n.fresh n.change
