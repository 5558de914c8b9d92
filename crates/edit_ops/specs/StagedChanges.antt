-- What a change inserts into a tree, with all memory reserved that it needs there. Capacity isn't
-- a part of a tree, so no definition can say of the tree whether the allocation succeeds.
use Rattle.std.specs.Prelude.{◌≡◌, IsSomeAnd, Vec}
use Rattle.std.specs.declared.alloc.Global.{Global}
use Rattle.xml_tree.specs.Tree.{Tree, at}
use Rattle.xml_tree.specs.Edits.{last_number}
use Rattle.xml_tree.specs.Reservations.{HasAttrCapacity, HasNodeCapacity, joined_texts_around}
use Rattle.xml_names.specs.declared.names.Attr.{Attr}
use Rattle.xml_tree.specs.declared.tree.Node.{Node}
use Rattle.edit_ops.specs.ChangeSites.{change_site}
use Rattle.edit_ops.specs.declared.change.Change.{Change}
use Rattle.edit_ops.specs.declared.change.Change.TheVariants.{CreateDocument, Insert, Replace}
use Rattle.edit_ops.specs.declared.change.Change.TheVariants.{Remove, SetAttr, DropAttr}
use Rattle.edit_ops.specs.declared.change.Change.TheVariants.{RemoveDocument}
use Rattle.edit_ops.specs.declared.staged_change.Staged.{Staged}
use Rattle.edit_ops.specs.declared.staged_change.Staged.TheVariants.{Child, Other, Joint, Attribute}
use Rattle.edit_ops.specs.declared.staged_change.Staged.TheVariants.{Nothing}

-- what the change inserts into the element that it is made in: the parts that it names, and
-- capacity for them beside what is there already
abbrev pub IsStagedLocally : Change → Tree → Staged → Type 0
IsStagedLocally (CreateDocument root) e made = ⊥
IsStagedLocally (Insert parent gap element) e made =
    (room : Vec Node Global) × (made ≡ Child element room) × HasNodeCapacity e room
IsStagedLocally (Replace p element) e made = made ≡ Other element
IsStagedLocally (Remove p) e made = made ≡ Joint (joined_texts_around (last_number p) e.content)
IsStagedLocally (SetAttr p name value) e made =
    (room : Vec Attr Global) × (made ≡ Attribute name value room) × HasAttrCapacity name e room
IsStagedLocally (DropAttr p name) e made = made ≡ Nothing
IsStagedLocally RemoveDocument e made = ⊥

-- what the change inserts into the tree
abbrev pub IsStaged : Tree → Change → Staged → Type 0
IsStaged t change made = IsSomeAnd (at (change_site change) t) (λ e. IsStagedLocally change e made)
