-- The changes of a document since a version of it. RFC 5874, section 3: changes between two entity
-- tags.
use Rattle.std.specs.Prelude.{ℕ, ◌==◌, List, [], ◌∷◌, Option, None, Some, if◌then◌else◌}
use Rattle.std.specs.Option.{option_map_or}
use Rattle.doc_names.specs.declared.doc_id.DocId.{DocId}
use Rattle.edit_ops.specs.Notes.{Note}
use Rattle.store_core.specs.Contents.{StoreContents}
use Rattle.store_core.specs.DocumentChanges.{find_document, stored_id}

-- the document isn't stored; the etag is neither its own nor the one before a retained record; or
-- the records from that etag on
pub data ChangesSince : Type 0 where
  Gone : ChangesSince
  Unknown : ChangesSince
  ReportedChanges : List Note → ChangesSince

-- the records from the one on that continues from this etag
abbrev pub notes_from : ℕ → List Note → Option (List Note)
notes_from tag [] = None
notes_from tag (n ∷ ns) = if n.previous == tag then Some (n ∷ ns) else notes_from tag ns

-- the changes of a document since the version with this etag
abbrev pub since : StoreContents → DocId → ℕ → ChangesSince
since c id tag =
    option_map_or (λ h.
    if h.tag == tag then ReportedChanges []
    else option_map_or ReportedChanges (notes_from tag h.notes) Unknown)
    (find_document stored_id c.documents id) Gone
