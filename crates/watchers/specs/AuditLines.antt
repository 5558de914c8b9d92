-- The line that an audit writes about a change. Its form is the project's own.
use Rattle.std.specs.Prelude.{ℕ, codes, decimal, encode_utf8_all, List, [], ◌∷◌, ◌++◌}
use Rattle.xml_names.specs.Markup.{print_name}
use Rattle.xml_names.specs.declared.names.Name.{Name}
use Rattle.xml_tree.specs.PathTexts.{path_text}
use Rattle.doc_names.specs.DocIds.{id_text}
use Rattle.edit_ops.specs.declared.change.Change.{Change}
use Rattle.edit_ops.specs.declared.change.Change.TheVariants.{CreateDocument, Insert, Replace}
use Rattle.edit_ops.specs.declared.change.Change.TheVariants.{Remove, SetAttr, DropAttr}
use Rattle.edit_ops.specs.declared.change.Change.TheVariants.{RemoveDocument}
use Rattle.edit_ops.specs.declared.edit.Edit.{Edit}

-- a word and a place as a positional selector
abbrev pub place_bytes : List ℕ → List ℕ → List ℕ
place_bytes word p = word ++ (codes " " ++ encode_utf8_all (path_text p))

-- an attribute of the element at this place
abbrev pub attr_bytes : Name → List ℕ
attr_bytes name = codes "/@" ++ encode_utf8_all (print_name name)

-- the word and the place of a change: of an insertion the place of the new element, the child
-- whose number is the insertion point
abbrev pub change_bytes : Change → List ℕ
change_bytes (CreateDocument root) = codes "create"
change_bytes (Insert parent gap element) = place_bytes (codes "insert") (parent ++ gap ∷ [])
change_bytes (Replace p element) = place_bytes (codes "replace") p
change_bytes (Remove p) = place_bytes (codes "remove") p
change_bytes (SetAttr p name value) = place_bytes (codes "set") p ++ attr_bytes name
change_bytes (DropAttr p name) = place_bytes (codes "drop") p ++ attr_bytes name
change_bytes RemoveDocument = codes "delete"

-- the number, the document's printed id and the change, separated by spaces; and a line end
abbrev pub audit_line_bytes : Edit → List ℕ
audit_line_bytes edit =
    decimal edit.note.next
    ++ (codes " "
    ++ (encode_utf8_all (id_text edit.doc)
    ++ (codes " " ++ (change_bytes edit.note.change ++ codes "\n"))))
