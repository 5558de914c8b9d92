-- The changes of a document since a version of it, by its stored tree and the records that are
-- found.
use Rattle.std.specs.Prelude.{ℕ, ◌==◌, List, [], Option, if◌then◌else◌}
use Rattle.std.specs.Option.{option_map_or}
use Rattle.edit_ops.specs.Notes.{Note}
use Rattle.store_core.specs.Contents.{StoredDocument}
use Rattle.store_core.specs.Since.{ChangesSince, Gone, Unknown, ReportedChanges, notes_from}

-- by the records from the etag on, where the etag is known
abbrev pub changes_since_of : Option (List Note) → ChangesSince
changes_since_of found = option_map_or ReportedChanges found Unknown

-- by the stored document, if there is one
abbrev pub stored_changes_since : ℕ → Option StoredDocument → ChangesSince
stored_changes_since tag found =
    option_map_or
    (λ h. if h.tag == tag then ReportedChanges [] else changes_since_of (notes_from tag h.notes))
    found Gone
