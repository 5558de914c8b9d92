-- The documents of a watcher that keeps every document as it is now. The edits are those of RFC
-- 4825, sections 8.2.3, 8.2.4 and 8.4.
use Rattle.std.specs.Prelude.{◌≡◌, ◌≢◌, ℕ, ◌<◌, ◌≤◌, ◌⊎◌, List, Option, None, Some, option_map}
use Rattle.std.specs.Map.{lookup}
use Rattle.xml_tree.specs.Tree.{Tree, height}
use Rattle.xml_names.specs.declared.limits.TheConstants.{MAX_LEVELS}
use Rattle.doc_names.specs.NameEquality.{same_id}
use Rattle.doc_names.specs.declared.doc_id.DocId.{DocId}
use Rattle.edit_ops.specs.Changes.{FitsTree, edited}
use Rattle.edit_ops.specs.declared.change.Change.{Change}
use Rattle.edit_ops.specs.declared.change.Change.TheVariants.{CreateDocument, Insert, Replace}
use Rattle.edit_ops.specs.declared.change.Change.TheVariants.{Remove, SetAttr, DropAttr}
use Rattle.edit_ops.specs.declared.change.Change.TheVariants.{RemoveDocument}
use Rattle.watchers.specs.MirrorContents.{MirroredDocument}
use Rattle.edit_ops.specs.declared.edit.Edit.{Edit}
use Rattle.watchers.specs.declared.mirror_entry.MirrorEntry.{MirrorEntry}
use Rattle.watchers.specs.declared.watcher.Told.{Told}
use Rattle.watchers.specs.declared.watcher.Told.TheVariants.{Kept, Failed, NoMemory}

abbrev pub mirrored_document : MirrorEntry → MirroredDocument
mirrored_document h = (h.tree, h.number)

-- what is kept of a document
abbrev pub find_mirrored : List (DocId × MirrorEntry) → DocId → Option MirroredDocument
find_mirrored entries doc = option_map mirrored_document (lookup (same_id doc) entries)

-- a tree is kept exactly where it has at most `MAX_LEVELS` levels
abbrev pub HoldsIfWithinLevels : Tree → ℕ → Option MirroredDocument → Type 0
HoldsIfWithinLevels t number held =
    ((height t ≤ MAX_LEVELS) × (held ≡ Some (t, number)))
    ⊎ ((MAX_LEVELS < height t) × (held ≡ None))

-- a kept tree is edited where the change fits it; else nothing is kept
abbrev pub HoldsEditedTree : Change → ℕ → Option MirroredDocument → Option MirroredDocument → Type 0
HoldsEditedTree change number None held = held ≡ None
HoldsEditedTree change number (Some before) held =
    (FitsTree before.0 change × HoldsIfWithinLevels (edited before.0 change) number held)
    ⊎ (¬ (FitsTree before.0 change) × (held ≡ None))

-- What is kept of a document after a change of it, by what was kept before: after a creation the
-- new tree; after any other change the edited tree, and so nothing after a removal, as that fits
-- no tree.
abbrev pub HoldsAfterChange : Change → ℕ → Option MirroredDocument → Option MirroredDocument
    → Type 0
HoldsAfterChange (CreateDocument root) number before held = HoldsIfWithinLevels root number held
HoldsAfterChange (Insert parent gap element) number before held =
    HoldsEditedTree (Insert parent gap element) number before held
HoldsAfterChange (Replace p element) number before held =
    HoldsEditedTree (Replace p element) number before held
HoldsAfterChange (Remove p) number before held = HoldsEditedTree (Remove p) number before held
HoldsAfterChange (SetAttr p name value) number before held =
    HoldsEditedTree (SetAttr p name value) number before held
HoldsAfterChange (DropAttr p name) number before held =
    HoldsEditedTree (DropAttr p name) number before held
HoldsAfterChange RemoveDocument number before held =
    HoldsEditedTree RemoveDocument number before held

-- all documents but this one are unchanged
abbrev pub OthersAreUnchanged : List (DocId × MirrorEntry) → DocId → List (DocId × MirrorEntry)
    → Type 0
OthersAreUnchanged old doc new =
    (other : DocId) → other ≢ doc → find_mirrored new other ≡ find_mirrored old other

-- all documents are unchanged
abbrev pub AllAreUnchanged : List (DocId × MirrorEntry) → List (DocId × MirrorEntry) → Type 0
AllAreUnchanged old new = (doc : DocId) → find_mirrored new doc ≡ find_mirrored old doc

-- A mirror that kept a change has its document as it is after it, and the others unchanged; when
-- out of memory all are unchanged.
abbrev pub MirrorsChange : List (DocId × MirrorEntry) → Edit → Told → List (DocId × MirrorEntry)
    → Type 0
MirrorsChange old edit Kept new =
    HoldsAfterChange edit.note.change edit.note.next (find_mirrored old edit.doc)
    (find_mirrored new edit.doc)
    × OthersAreUnchanged old edit.doc new
MirrorsChange old edit Failed new = ⊥
MirrorsChange old edit NoMemory new = AllAreUnchanged old new
