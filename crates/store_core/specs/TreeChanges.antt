-- How a change is made in the tree of a document: the root is replaced by the change record's, or
-- the change is made in place, which needs an unshared tree.
use Rattle.std.specs.Prelude.{◌≡◌, ℕ, Bool, true, false, List, [], ◌∷◌}
use Rattle.xml_tree.specs.Tree.{Tree}
use Rattle.edit_ops.specs.Changes.{edited}
use Rattle.edit_ops.specs.StagedChanges.{IsStaged}
use Rattle.edit_ops.specs.declared.change.Change.{Change}
use Rattle.edit_ops.specs.declared.change.Change.TheVariants.{CreateDocument, Insert, Replace}
use Rattle.edit_ops.specs.declared.change.Change.TheVariants.{Remove, SetAttr, DropAttr}
use Rattle.edit_ops.specs.declared.change.Change.TheVariants.{RemoveDocument}
use Rattle.store_core.specs.declared.staged_tree.StagedTree.{StagedTree}
use Rattle.store_core.specs.declared.staged_tree.StagedTree.TheVariants.{Whole, InPlace}

-- the path leads to an element below the root
abbrev pub is_below_root : List ℕ → Bool
is_below_root [] = false
is_below_root (n ∷ p) = true

-- the change keeps the root of the document, and changes something in it
abbrev pub edits_within_root : Change → Bool
edits_within_root (CreateDocument root) = false
edits_within_root (Insert parent gap element) = true
edits_within_root (Replace p element) = is_below_root p
edits_within_root (Remove p) = true
edits_within_root (SetAttr p name value) = true
edits_within_root (DropAttr p name) = true
edits_within_root RemoveDocument = false

-- what the change inserts into the tree: the whole new tree, or, where it is one within the root,
-- what it inserts in place
abbrev pub IsStagedTreeFor : Tree → Change → StagedTree → Type 0
IsStagedTreeFor t change (Whole root) = root ≡ edited t change
IsStagedTreeFor t change (InPlace staged) =
    IsStaged t change staged × (edits_within_root change ≡ true)

-- what is inserted in place needs an unshared tree
abbrev pub IsUnsharedIfInPlace : StagedTree → Bool → Type 0
IsUnsharedIfInPlace (Whole root) own = Unit {0}
IsUnsharedIfInPlace (InPlace staged) own = own ≡ true
