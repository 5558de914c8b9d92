-- A change as a change of a single element: where the element is that it is made in.
use Rattle.std.specs.Prelude.{ℕ, List, []}
use Rattle.xml_tree.specs.Edits.{parent_path}
use Rattle.edit_ops.specs.declared.change.Change.{Change}
use Rattle.edit_ops.specs.declared.change.Change.TheVariants.{CreateDocument, Insert, Replace}
use Rattle.edit_ops.specs.declared.change.Change.TheVariants.{Remove, SetAttr, DropAttr}
use Rattle.edit_ops.specs.declared.change.Change.TheVariants.{RemoveDocument}

-- where the element is that gets or loses a child or an attribute, or is replaced
abbrev pub change_site : Change → List ℕ
change_site (CreateDocument root) = []
change_site (Insert parent gap element) = parent
change_site (Replace p element) = p
change_site (Remove p) = parent_path p
change_site (SetAttr p name value) = p
change_site (DropAttr p name) = p
change_site RemoveDocument = []
