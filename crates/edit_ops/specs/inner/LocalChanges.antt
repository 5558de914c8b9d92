-- What a change does at the one element where it is made, and what it needs there.
use Rattle.std.specs.Prelude.{◌<◌, ◌≤◌, length}
use Rattle.xml_tree.specs.Tree.{Tree, child_elements_of}
use Rattle.xml_tree.specs.Edits.{cut_child, drop_attr, last_number, put_kid, set_attr_value}
use Rattle.xml_tree.specs.Edits.{TextsMeet}
use Rattle.edit_ops.specs.declared.change.Change.{Change}
use Rattle.edit_ops.specs.declared.change.Change.TheVariants.{CreateDocument, Insert, Replace}
use Rattle.edit_ops.specs.declared.change.Change.TheVariants.{Remove, SetAttr, DropAttr}
use Rattle.edit_ops.specs.declared.change.Change.TheVariants.{RemoveDocument}

-- that element afterwards
abbrev pub local_result : Change → Tree → Tree
local_result (CreateDocument root) e = e
local_result (Insert parent gap element) e = put_kid gap element e
local_result (Replace p element) e = element
local_result (Remove p) e = cut_child (last_number p) e
local_result (SetAttr p name value) e = set_attr_value name value e
local_result (DropAttr p name) e = drop_attr name e
local_result RemoveDocument e = e

-- the element has the gap, or the child that is removed
abbrev pub FitsLocally : Change → Tree → Type 0
FitsLocally (CreateDocument root) e = ⊥
FitsLocally (Insert parent gap element) e = gap ≤ length (child_elements_of e)
FitsLocally (Replace p element) e = Unit {0}
FitsLocally (Remove p) e = (0 < length p) × (last_number p < length (child_elements_of e))
FitsLocally (SetAttr p name value) e = Unit {0}
FitsLocally (DropAttr p name) e = Unit {0}
FitsLocally RemoveDocument e = ⊥

-- the change may have to allocate at that element: to remove a child only if texts meet
abbrev pub NeedsMemoryLocally : Change → Tree → Type 0
NeedsMemoryLocally (CreateDocument root) e = ⊥
NeedsMemoryLocally (Insert parent gap element) e = Unit {0}
NeedsMemoryLocally (Replace p element) e = Unit {0}
NeedsMemoryLocally (Remove p) e = TextsMeet (last_number p) e.content
NeedsMemoryLocally (SetAttr p name value) e = Unit {0}
NeedsMemoryLocally (DropAttr p name) e = ⊥
NeedsMemoryLocally RemoveDocument e = ⊥
