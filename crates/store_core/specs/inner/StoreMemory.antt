-- What a store has in memory, and the contents that it represents: the documents in order of
-- creation, and which document has each service address. RFC 4826, section 4.4.5 (service
-- addresses are unique over all documents).
use Rattle.std.specs.Prelude.{◌≡◌, ℕ, ◌+◌, ◌≤◌, ◌==◌, Bool, true, false, not, List, [], ◌∷◌, ◌++◌}
use Rattle.std.specs.Prelude.{map, sum_by, Option, None, Some, if◌then◌else◌}
use Rattle.std.specs.List.{AllByRecursion}
use Rattle.std.specs.Map.{lookup}
use Rattle.std.specs.Set.{is_member}
use Rattle.std.specs.Str.{bytes_eq}
use Rattle.edit_ops.specs.Changes.{edited}
use Rattle.usage_docs.specs.Services.{document_len}
use Rattle.doc_names.specs.declared.doc_id.DocId.{DocId}
use Rattle.edit_ops.specs.Notes.{Note}
use Rattle.store_core.specs.declared.entry.Entry.{Entry}
use Rattle.store_core.specs.declared.limits.Limits.{Limits}
use Rattle.store_core.specs.State.{State, retained_notes}
use Rattle.store_core.specs.Contents.{StoredDocument, Represents, StoreContents}
use Rattle.store_core.specs.ValidStates.{AreDistinct, IsValidState, document_addresses}

-- ---- its documents

-- a document by its entry
abbrev pub stored_view : DocId × Entry → StoredDocument
stored_view e = record { id = e.0; tag = e.1.tag; tree = e.1.tree.root; notes = e.1.notes }

-- all documents, the limits, and the number after the last one given
abbrev pub contents_view : List (DocId × Entry) → Limits → ℕ → StoreContents
contents_view es limits last =
    record { documents = map stored_view es; next = last + 1; limits = limits }

abbrev pub entry_id : DocId × Entry → DocId
entry_id e = e.0

abbrev pub entry_addresses : DocId × Entry → List (List ℕ)
entry_addresses e = document_addresses e.0.auid e.1.tree.root

abbrev pub entry_len : DocId × Entry → ℕ
entry_len e = document_len e.1.tree.root

-- the number of its creation
abbrev pub entry_number : DocId × Entry → ℕ
entry_number e = e.1.created

-- the entry of a document after the edit of a change record, which is retained, and after which it
-- has `bytes` bytes
pub record IsUpdatedEntry (old : Entry) (number : ℕ) (note : Note) (bytes : ℕ)
    (new : Entry) : Type 0 where
  pub created : new.created ≡ old.created
  pub tag : new.tag ≡ number
  pub tree : new.tree.root ≡ edited old.tree.root note.change
  pub len : new.len ≡ bytes
  pub notes : new.notes ≡ retained_notes (old.notes ++ note ∷ [])

-- ---- which trees are shared

-- of each document, whether its tree is unshared
abbrev pub unshared_flags : List (DocId × Entry) → List (DocId × Bool)
unshared_flags es = map (λ e. (e.0, e.1.tree.own)) es

-- the entry as if its tree were unshared
abbrev pub as_unshared : Entry → Entry
as_unshared v =
    record {
      created = v.created;
      tag = v.tag;
      tree = record { root = v.tree.root; own = true };
      len = v.len;
      notes = v.notes;
    }

abbrev pub all_as_unshared : List (DocId × Entry) → List (DocId × Entry)
all_as_unshared es = map (λ e. (e.0, as_unshared e.1)) es

-- ---- which document has an address

module _ {D : Type 0} (own : D → List (List ℕ)) (number : D → ℕ) where
  -- the number of the first document that has it
  abbrev pub first_holder : List D → List ℕ → Option ℕ
  first_holder [] uri = None
  first_holder (d ∷ ds) uri =
      if is_member bytes_eq (own d) uri then Some (number d) else first_holder ds uri

abbrev pub address_holder : List (DocId × Entry) → List ℕ → Option ℕ
address_holder es uri = first_holder entry_addresses entry_number es uri

-- the document isn't the one with this number, if that exists
abbrev pub is_held_by_other : Option ℕ → Option ℕ → Bool
is_held_by_other own None = false
is_held_by_other None (Some n) = true
is_held_by_other (Some m) (Some n) = not (m == n)

-- an address in a registry
abbrev pub registered_number : List (List ℕ × ℕ) → List ℕ → Option ℕ
registered_number rs uri = lookup (bytes_eq uri) rs

-- a registry after some addresses were removed and others added under a number
abbrev pub registered_after : List (List ℕ) → List (List ℕ) → ℕ → Option ℕ → List ℕ → Option ℕ
registered_after leaves enters number before uri =
    if is_member bytes_eq enters uri then Some number
    else if is_member bytes_eq leaves uri then None
    else before

-- ---- the invariant of a store

pub record IsConsistentStore (es : List (DocId × Entry)) (rs : List (List ℕ × ℕ))
    (limits : Limits) (last total : ℕ) : Type 0 where
  -- it represents a valid state
  pub kept : (m : State) × Represents (contents_view es limits last) m × IsValidState m
  -- its registry gives for each address the document that has it
  pub addresses : (uri : List ℕ) → registered_number rs uri ≡ address_holder es uri
  -- each creation has its own number
  pub numbers : AreDistinct (map entry_number es)
  pub given : AllByRecursion (λ e. entry_number e ≤ last) es
  -- the total is the sum of the documents' lengths
  pub sum : total ≡ sum_by entry_len es
  -- the stored length of each document is its length
  pub lens : AllByRecursion (λ e. e.1.len ≡ entry_len e) es
  -- a document without change records has the etag with which it was put
  pub unedited : AllByRecursion (λ e. e.1.notes ≡ [] → entry_number e ≡ e.1.tag) es
