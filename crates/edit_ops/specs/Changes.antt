-- What a change makes of a document's tree. Places are the places of RFC 4825, sections 8.2.3,
-- 8.2.4 and 8.4, as paths of numbers.
use Rattle.std.specs.Prelude.{ℕ, ◌<◌, ◌≤◌, List, [], length, IsSome, IsSomeAnd}
use Rattle.xml_tree.specs.Tree.{Tree, at, child_elements_of}
use Rattle.xml_tree.specs.Edits.{put_in, put_over, cut_out, set_attr_at, drop_attr_at, attr_at}
use Rattle.xml_tree.specs.Edits.{TextsMeetAt}
use Rattle.edit_ops.specs.declared.change.Change.{Change}
use Rattle.edit_ops.specs.declared.change.Change.TheVariants.{CreateDocument, Insert, Replace}
use Rattle.edit_ops.specs.declared.change.Change.TheVariants.{Remove, SetAttr, DropAttr}
use Rattle.edit_ops.specs.declared.change.Change.TheVariants.{RemoveDocument}

-- the tree after the change; creating or removing a document has no tree before or after it, and
-- leaves the given tree
abbrev pub edited : Tree → Change → Tree
edited t (CreateDocument root) = t
edited t (Insert parent gap element) = put_in parent gap element t
edited t (Replace p element) = put_over p element t
edited t (Remove p) = cut_out p t
edited t (SetAttr p name value) = set_attr_at p name value t
edited t (DropAttr p name) = drop_attr_at p name t
edited t RemoveDocument = t

-- the change fits the tree: its place, gap and dropped attribute are there, and it doesn't remove
-- the root
abbrev pub FitsTree : Tree → Change → Type 0
FitsTree t (CreateDocument root) = ⊥
FitsTree t (Insert parent gap element) =
    IsSomeAnd (at parent t) (λ e. gap ≤ length (child_elements_of e))
FitsTree t (Replace p element) = IsSome (at p t)
FitsTree t (Remove p) = (0 < length p) × IsSome (at p t)
FitsTree t (SetAttr p name value) = IsSome (at p t)
FitsTree t (DropAttr p name) = IsSome (attr_at p name t)
FitsTree t RemoveDocument = ⊥

-- the change may have to allocate: not to drop an attribute, and to remove an element only if
-- texts meet that have to be joined
abbrev pub NeedsMemory : Tree → Change → Type 0
NeedsMemory t (CreateDocument root) = ⊥
NeedsMemory t (Insert parent gap element) = Unit {0}
NeedsMemory t (Replace p element) = Unit {0}
NeedsMemory t (Remove p) = TextsMeetAt p t
NeedsMemory t (SetAttr p name value) = Unit {0}
NeedsMemory t (DropAttr p name) = ⊥
NeedsMemory t RemoveDocument = ⊥

-- where the change lies: the element that gets a child or an attribute, loses an attribute, or is
-- itself replaced or removed
abbrev pub place : Change → List ℕ
place (CreateDocument root) = []
place (Insert parent gap element) = parent
place (Replace p element) = p
place (Remove p) = p
place (SetAttr p name value) = p
place (DropAttr p name) = p
place RemoveDocument = []
