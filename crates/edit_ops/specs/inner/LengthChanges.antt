-- What a change removes from the print of the element that it is made in, and what it adds, in
-- bytes.
use Rattle.std.specs.Prelude.{ℕ, ◌+◌, flat_map, option_to_list, slice_get, if◌then◌else◌, find}
use Rattle.xml_tree.specs.Tree.{Tree, child_elements_of}
use Rattle.xml_tree.specs.Edits.{cut, last_number}
use Rattle.xml_names.specs.Markup.{byte_len, print_attr, print_name}
use Rattle.xml_tree.specs.Print.{is_empty, print}
use Rattle.xml_names.specs.declared.names.Name.{Name}
use Rattle.xml_names.specs.Attributes.{has_qname}
use Rattle.edit_ops.specs.declared.change.Change.{Change}
use Rattle.edit_ops.specs.declared.change.Change.TheVariants.{CreateDocument, Insert, Replace}
use Rattle.edit_ops.specs.declared.change.Change.TheVariants.{Remove, SetAttr, DropAttr}
use Rattle.edit_ops.specs.declared.change.Change.TheVariants.{RemoveDocument}

-- by how much `>` and an end tag of this name are longer than `/>`
abbrev pub end_tag_len : Name → ℕ
end_tag_len n = byte_len (print_name n) + 2

-- the child or the attribute that is removed, where it is there; with the last node the end tag
-- is removed, too
abbrev pub removed_len : Change → Tree → ℕ
removed_len (CreateDocument root) e = 0
removed_len (Insert parent gap element) e = 0
removed_len (Replace p element) e = byte_len (print e)
removed_len (Remove p) e =
    byte_len (flat_map print (option_to_list (slice_get (child_elements_of e) (last_number p))))
    + (if is_empty (cut (last_number p) e.content) then end_tag_len e.name else 0)
removed_len (SetAttr p name value) e =
    byte_len (flat_map print_attr (option_to_list (find (has_qname name) e.attrs)))
removed_len (DropAttr p name) e =
    byte_len (flat_map print_attr (option_to_list (find (has_qname name) e.attrs)))
removed_len RemoveDocument e = 0

-- the new child, the replacement or the new attribute; with the first node an end tag is added
abbrev pub added_len : Change → Tree → ℕ
added_len (CreateDocument root) e = 0
added_len (Insert parent gap element) e =
    byte_len (print element) + (if is_empty e.content then end_tag_len e.name else 0)
added_len (Replace p element) e = byte_len (print element)
added_len (Remove p) e = 0
added_len (SetAttr p name value) e =
    byte_len (print_attr (record { name = name; value = value }))
added_len (DropAttr p name) e = 0
added_len RemoveDocument e = 0
