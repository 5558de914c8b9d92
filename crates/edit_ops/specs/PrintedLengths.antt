-- The length of the print of the element that a change inserts, in bytes as UTF-8.
use Rattle.std.specs.Prelude.{ℕ}
use Rattle.xml_names.specs.Markup.{byte_len}
use Rattle.xml_tree.specs.Print.{print}
use Rattle.edit_ops.specs.declared.change.Change.{Change}
use Rattle.edit_ops.specs.declared.change.Change.TheVariants.{CreateDocument, Insert, Replace}
use Rattle.edit_ops.specs.declared.change.Change.TheVariants.{Remove, SetAttr, DropAttr}
use Rattle.edit_ops.specs.declared.change.Change.TheVariants.{RemoveDocument}

-- the printed length of the created root, the inserted element or the replacement; 0 if there is
-- none
abbrev pub element_len : Change → ℕ
element_len (CreateDocument root) = byte_len (print root)
element_len (Insert parent gap element) = byte_len (print element)
element_len (Replace p element) = byte_len (print element)
element_len (Remove p) = 0
element_len (SetAttr p name value) = 0
element_len (DropAttr p name) = 0
element_len RemoveDocument = 0
