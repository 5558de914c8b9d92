-- What a change of a document does to the machine's state and to a store's contents, and why it
-- may be refused. RFC 4825, section 8.5 (a new entity tag for each change); RFC 4826, section
-- 4.4.5 (service addresses are unique over all documents).
use Rattle.std.specs.Prelude.{ℕ, ◌+◌, nat_lt, nat_le, min, Bool, true, false, not, ◌&&◌, List, []}
use Rattle.std.specs.Prelude.{◌∷◌, ◌++◌, length, map, sum_by, filter, flat_map, find, position}
use Rattle.std.specs.Prelude.{Option, None, Some, option_map, if◌then◌else◌, Result, Ok, Err}
use Rattle.std.specs.Set.{is_member}
use Rattle.std.specs.Str.{bytes_eq}
use Rattle.std.specs.Option.{option_or}
use Rattle.xml_tree.specs.Tree.{Tree}
use Rattle.xml_names.specs.Limits.{u64_max}
use Rattle.usage_docs.specs.Services.{document_len}
use Rattle.usage_docs.specs.declared.key_repeats.Clash.{Clash}
use Rattle.usage_docs.specs.declared.schema_table.Key.TheVariants.{Uri}
use Rattle.doc_names.specs.NameEquality.{same_id}
use Rattle.doc_names.specs.declared.doc_id.DocId.{DocId}
use Rattle.edit_ops.specs.Changes.{edited}
use Rattle.edit_ops.specs.declared.change.Change.{Change}
use Rattle.edit_ops.specs.declared.change.Change.TheVariants.{CreateDocument, RemoveDocument}
use Rattle.edit_ops.specs.Notes.{Note, note_of}
use Rattle.store_core.specs.declared.limits.TheConstants.{MAX_DOCUMENT_BYTES}
use Rattle.store_core.specs.declared.refusal.StoreRefusal.{StoreRefusal}
use Rattle.store_core.specs.declared.refusal.StoreRefusal.TheVariants.{ServiceTaken, TooLarge}
use Rattle.store_core.specs.declared.refusal.StoreRefusal.TheVariants.{TooMany, StoreFull, NoNumber}
use Rattle.store_core.specs.declared.refusal.StoreRefusal.TheVariants.{HomeTooMany, HomeFull}
use Rattle.store_core.specs.HomeLimits.{documents_of_home, is_above}
use Rattle.store_core.specs.State.{Document, State, new_document, document_after, retained_notes}
use Rattle.store_core.specs.Contents.{StoredDocument, StoreContents}
use Rattle.store_core.specs.ValidStates.{document_addresses}

-- ---- lists of documents, whatever is stored of each

module _ {D : Type 0} (id_of : D → DocId) where
  -- the document of this name
  abbrev pub find_document : List D → DocId → Option D
  find_document ds id = find (λ d. same_id id (id_of d)) ds

  -- the list with the document of this name replaced by what f makes of it
  abbrev pub with_document : (D → D) → List D → DocId → List D
  with_document f ds id = map (λ d. if same_id id (id_of d) then f d else d) ds

  -- all documents without the document of this name
  abbrev pub without_document : List D → DocId → List D
  without_document ds id = filter (λ d. not (same_id id (id_of d))) ds

abbrev pub document_id : Document → DocId
document_id d = d.id

abbrev pub stored_id : StoredDocument → DocId
stored_id h = h.id

-- ---- what a change does

-- it creates a document, with this root; or it edits one; or it removes one
pub data ChangeKind : Type 0 where
  Makes : Tree → ChangeKind
  Edits : ChangeKind
  Removes : ChangeKind

abbrev pub change_kind : Change → ChangeKind
change_kind (CreateDocument root) = Makes root
change_kind RemoveDocument = Removes
change_kind _ = Edits

-- ---- the state

abbrev pub state_after_by_kind : State → DocId → Change → ChangeKind → State
state_after_by_kind m id change (Makes root) =
    record m { documents = m.documents ++ new_document id m.next root ∷ []; next = m.next + 1 }
state_after_by_kind m id change Edits =
    record m {
      documents =
          with_document document_id
          (λ d. document_after m.next d (note_of d.now.tag m.next d.now.tree change)) m.documents
          id;
      next = m.next + 1;
    }
state_after_by_kind m id change Removes =
    record m { documents = without_document document_id m.documents id; next = m.next + 1 }

-- the state after a change that is accepted
abbrev pub state_after : State → DocId → Change → State
state_after m id change = state_after_by_kind m id change (change_kind change)

-- ---- the store

-- a document after an edit
abbrev pub stored_document_after : ℕ → Change → StoredDocument → StoredDocument
stored_document_after number change h =
    record {
      id = h.id;
      tag = number;
      tree = edited h.tree change;
      notes = retained_notes (h.notes ++ note_of h.tag number h.tree change ∷ []);
    }

abbrev pub contents_after_by_kind : StoreContents → DocId → Change → ChangeKind → StoreContents
contents_after_by_kind c id change (Makes root) =
    record c {
      documents = c.documents ++ record { id = id; tag = c.next; tree = root; notes = [] } ∷ [];
      next = c.next + 1;
    }
contents_after_by_kind c id change Edits =
    record c {
      documents = with_document stored_id (stored_document_after c.next change) c.documents id;
      next = c.next + 1;
    }
contents_after_by_kind c id change Removes =
    record c { documents = without_document stored_id c.documents id; next = c.next + 1 }

-- the contents after a change that the store makes
abbrev pub contents_after : StoreContents → DocId → Change → StoreContents
contents_after c id change = contents_after_by_kind c id change (change_kind change)

-- ---- why a change is refused

-- the first service whose address another document has. In a valid document every element child of
-- the root is a service with an address, so the i-th address is the i-th child's.
abbrev pub first_taken_address : List (List ℕ) → List (List ℕ) → Option Clash
first_taken_address others own =
    option_map (λ i. record { path = i ∷ []; key = Uri }) (position (is_member bytes_eq others) own)

-- the addresses of the other documents, and the lengths of their prints together
abbrev pub other_addresses : StoreContents → DocId → List (List ℕ)
other_addresses c id =
    flat_map (λ h. document_addresses h.id.auid h.tree) (without_document stored_id c.documents id)

abbrev pub total_len_of_others : StoreContents → DocId → ℕ
total_len_of_others c id =
    sum_by (λ h. document_len h.tree) (without_document stored_id c.documents id)

abbrev pub refusal_if : Bool → StoreRefusal → Option StoreRefusal
refusal_if holds refusal = if holds then Some refusal else None

-- another document has the address of one of the services
abbrev pub refusal_of_services : StoreContents → DocId → Tree → Option StoreRefusal
refusal_of_services c id t =
    option_map (λ clash. ServiceTaken clash)
    (first_taken_address (other_addresses c id) (document_addresses id.auid t))

-- the document is too long
abbrev pub refusal_of_length : Tree → Option StoreRefusal
refusal_of_length t =
    refusal_if (nat_lt MAX_DOCUMENT_BYTES (document_len t))
    (TooLarge (min (document_len t) u64_max))

-- a new document is one too many
abbrev pub refusal_of_count : StoreContents → Bool → Option StoreRefusal
refusal_of_count c is_new =
    refusal_if (is_new && nat_le c.limits.documents (length c.documents)) TooMany

-- all documents together are too long
abbrev pub refusal_of_total : StoreContents → DocId → Tree → Option StoreRefusal
refusal_of_total c id t =
    refusal_if (nat_lt c.limits.bytes (total_len_of_others c id + document_len t))
    (StoreFull (total_len_of_others c id + document_len t))

-- the other documents of the document's home
abbrev pub others_of_home : StoreContents → DocId → List StoredDocument
others_of_home c id = documents_of_home stored_id (without_document stored_id c.documents id) id.home

abbrev pub home_len_of_others : StoreContents → DocId → ℕ
home_len_of_others c id = sum_by (λ h. document_len h.tree) (others_of_home c id)

-- the documents of the home are too many, or too long together
abbrev pub refusal_of_home : StoreContents → DocId → Tree → Option StoreRefusal
refusal_of_home c id t =
    option_or (refusal_if (is_above c.limits.home_documents (length (others_of_home c id) + 1))
    HomeTooMany)
    (refusal_if (is_above c.limits.home_bytes (home_len_of_others c id + document_len t))
    (HomeFull (home_len_of_others c id + document_len t)))

-- the first reason against a tree that the document would have, whatever its home; is_new says
-- whether it isn't stored yet
abbrev pub refusal_in_store : StoreContents → DocId → Bool → Tree → Option StoreRefusal
refusal_in_store c id is_new t =
    option_or (refusal_of_services c id t)
    (option_or (refusal_of_length t)
    (option_or (refusal_of_count c is_new)
    (refusal_of_total c id t)))

-- the first reason against a tree that the document would have
abbrev pub refusal_of_tree : StoreContents → DocId → Bool → Tree → Option StoreRefusal
refusal_of_tree c id is_new t =
    option_or (refusal_in_store c id is_new t) (refusal_of_home c id t)

-- a reason against the number that the change would get: it doesn't fit 64 bits
abbrev pub refusal_of_number : StoreContents → Option StoreRefusal
refusal_of_number c = refusal_if (nat_le (u64_max + 1) c.next) NoNumber

abbrev pub refusal_of : StoreContents → DocId → Change → Option StoredDocument → ChangeKind
    → Option StoreRefusal
refusal_of c id change held (Makes root) =
    option_or (refusal_of_tree c id true root) (refusal_of_number c)
refusal_of c id change (Some h) Edits =
    option_or (refusal_of_tree c id false (edited h.tree change)) (refusal_of_number c)
refusal_of c id change None Edits = None
refusal_of c id change held Removes = refusal_of_number c

-- ---- what a store returns

-- the change record: the etag before, or 0 where there is none, and the new number
abbrev pub note_for : StoreContents → DocId → Change → Option StoredDocument → Note
note_for c id change None =
    record { previous = 0; next = c.next; bindings = []; change = change; fresh = false }
note_for c id change (Some h) = note_of h.tag c.next h.tree change

abbrev pub refusal_or : Option StoreRefusal → Note → StoreContents
    → Result (Note × StoreContents) StoreRefusal
refusal_or None note next = Ok (note, next)
refusal_or (Some refusal) note next = Err refusal

-- the first reason against the change, or its record and the contents after it
abbrev pub change_result : StoreContents → DocId → Change
    → Result (Note × StoreContents) StoreRefusal
change_result c id change =
    refusal_or
    (refusal_of c id change (find_document stored_id c.documents id) (change_kind change))
    (note_for c id change (find_document stored_id c.documents id)) (contents_after c id change)
