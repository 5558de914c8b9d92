-- The changes since a version of a document, by the version's number. RFC 5874, section 3: a diff
-- document has the changes between two entity tags.
use Rattle.std.specs.Prelude.{ℕ, Bool, true, List, [], ◌∷◌, if◌then◌else◌}
use Rattle.edit_ops.specs.DiffOperations.{weight}
use Rattle.element_watch.specs.SelectionHistory.{notes_after}
use Rattle.store_core.specs.Since.{ChangesSince, Unknown, ReportedChanges}
use Rattle.store_core.specs.State.{Document, is_within_retention, versions}

-- one item at most, or no more and no heavier ones than may be retained together
abbrev pub is_retainable : {A : Type 0} → (A → ℕ) → List A → Bool
is_retainable weight [] = true
is_retainable weight (x ∷ []) = true
is_retainable weight (x ∷ y ∷ xs) = is_within_retention weight (x ∷ y ∷ xs)

-- the change records of all versions after the one of this number, counted from 0 for the current
-- one; unless they are too many or too heavy
abbrev pub changes_after_version : ℕ → Document → ChangesSince
changes_after_version number d =
    if is_retainable weight (notes_after number (versions d))
    then ReportedChanges (notes_after number (versions d))
    else Unknown
