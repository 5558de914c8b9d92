-- The contents that represent a state follow a change of the state.
use Rattle.std.proofs.Common.{◌≡◌, ℕ, ◌+◌, Bool, true, false, not, cond, List, [], ◌∷◌, ◌++◌, map, filter, refl, sym, ap, ◌∙◌}
use Rattle.std.proofs.lemmas.List.{map-append, reverse-append}
use Rattle.std.specs.List.{filter_map}
use Rattle.doc_names.specs.declared.doc_id.DocId.{DocId}
use Rattle.doc_names.specs.NameEquality.{same_id}
use Rattle.edit_ops.specs.Changes.{edited}
use Rattle.edit_ops.specs.declared.change.Change.{Change}
use Rattle.edit_ops.specs.Notes.{Note, note_of}
use Rattle.edit_ops.specs.DiffOperations.{weight}
use Rattle.store_core.specs.State.{Document, State, versions, notes, retained_notes, document_after, new_document}
use Rattle.store_core.specs.Contents.{StoredDocument, Represents, stored_document, StoreContents as Content, contents_of as content_of}
use Rattle.store_core.specs.DocumentChanges.{ChangeKind, Makes, Edits, Removes, change_kind, state_after, state_after_by_kind, contents_after, contents_after_by_kind, stored_document_after}
use Rattle.store_core.proofs.Ends.{longest_retained_end-push}

-- ---- lists of documents

module _ {D H : Type 0} (h : D → H) (p : D → Bool) (q : H → Bool) (same : (d : D) → q (h d) ≡ p d) where
  map-one : (f : D → D) (g : H → H) → ((d : D) → h (f d) ≡ g (h d)) → (d : D) (b : Bool) → p d ≡ b → h (cond (p d) (f d) d) ≡ cond (q (h d)) (g (h d)) (h d)
  map-one f g each d true e = rw (same d, e) (each d)
  map-one f g each d false e = rw (same d, e) refl

  pub map-exchanged : (f : D → D) (g : H → H) → ((d : D) → h (f d) ≡ g (h d)) → (ds : List D) → map h (map (λ d. cond (p d) (f d) d) ds) ≡ map (λ e. cond (q e) (g e) e) (map h ds)
  map-exchanged f g each [] = refl
  map-exchanged f g each (d ∷ ds) =
      ap (λ e. e ∷ map h (map (λ x. cond (p x) (f x) x) ds)) (map-one f g each d (p d) refl)
      ∙ ap (λ es. cond (q (h d)) (g (h d)) (h d) ∷ es) (map-exchanged f g each ds)

  filter-one : (d : D) (ds : List D) (es : List H) (b : Bool) → p d ≡ b → map h ds ≡ es → map h (cond (p d) (d ∷ ds) ds) ≡ cond (q (h d)) (h d ∷ es) es
  filter-one d ds es true e by = rw (same d, e) (ap (λ xs. h d ∷ xs) by)
  filter-one d ds es false e by = rw (same d, e) by

  pub map-filtered : (ds : List D) → map h (filter p ds) ≡ filter q (map h ds)
  map-filtered [] = refl
  map-filtered (d ∷ ds) = filter-one d (filter p ds) (filter q (map h ds)) (p d) refl (map-filtered ds)

-- ---- one document

notes-document_after : (number : ℕ) (d : Document) (n : Note) → notes (document_after number d n) ≡ notes d ++ n ∷ []
notes-document_after number d n = reverse-append (n ∷ []) (filter_map (λ v. v.note) (versions d))

-- a stored document after an edit
held-document_after : (number : ℕ) (change : Change) (d : Document) → stored_document (document_after number d (note_of d.now.tag number d.now.tree change)) ≡ stored_document_after number change (stored_document d)
held-document_after number change d =
    let n = note_of d.now.tag number d.now.tree change in
    let kept : retained_notes (notes (document_after number d n)) ≡ retained_notes (retained_notes (notes d) ++ n ∷ []) = ap retained_notes (notes-document_after number d n) ∙ sym (longest_retained_end-push weight (notes d) n) in
    ap (λ (ns : List Note). let made : StoredDocument = record { id = d.id; tag = number; tree = edited d.now.tree change; notes = ns } in made) kept

-- ---- all documents

alike : (c d : Content) → c.documents ≡ d.documents → c.next ≡ d.next → c.limits ≡ d.limits → c ≡ d
alike c d documents next limits i = record { documents = documents i; next = next i; limits = limits i }

stood : (c : Content) (m : State) (id : DocId) (change : Change) (act : ChangeKind) → c.documents ≡ map stored_document m.documents → c.next ≡ m.next → c.limits ≡ m.limits → Represents (contents_after_by_kind c id change act) (state_after_by_kind m id change act)
stood c m id change (Makes root) documents next limits =
    alike (contents_after_by_kind c id change (Makes root)) (content_of (state_after_by_kind m id change (Makes root)))
    (ap (λ (n : ℕ). c.documents ++ stored_document (new_document id n root) ∷ []) next
    ∙ ap (λ (hs : List StoredDocument). hs ++ stored_document (new_document id m.next root) ∷ []) documents
    ∙ sym (map-append stored_document m.documents (new_document id m.next root ∷ [])))
    (ap (λ n. n + 1) next) limits
stood c m id change Edits documents next limits =
    alike (contents_after_by_kind c id change Edits) (content_of (state_after_by_kind m id change Edits))
    (ap (λ (n : ℕ). map (λ (h : StoredDocument). cond (same_id id h.id) (stored_document_after n change h) h) c.documents) next
    ∙ ap (λ (hs : List StoredDocument). map (λ (h : StoredDocument). cond (same_id id h.id) (stored_document_after m.next change h) h) hs) documents
    ∙ sym (map-exchanged stored_document (λ (d : Document). same_id id d.id) (λ (h : StoredDocument). same_id id h.id) (λ d. refl) (λ (d : Document). document_after m.next d (note_of d.now.tag m.next d.now.tree change)) (stored_document_after m.next change) (held-document_after m.next change) m.documents))
    (ap (λ n. n + 1) next) limits
stood c m id change Removes documents next limits =
    alike (contents_after_by_kind c id change Removes) (content_of (state_after_by_kind m id change Removes))
    (ap (λ (hs : List StoredDocument). filter (λ (h : StoredDocument). not (same_id id h.id)) hs) documents
    ∙ sym (map-filtered stored_document (λ (d : Document). not (same_id id d.id)) (λ (h : StoredDocument). not (same_id id h.id)) (λ d. refl) m.documents))
    (ap (λ n. n + 1) next) limits

pub stands-state_after : (c : Content) (m : State) (id : DocId) (change : Change) → Represents c m → Represents (contents_after c id change) (state_after m id change)
stands-state_after c m id change s = stood c m id change (change_kind change) (ap (λ (x : Content). x.documents) s) (ap (λ (x : Content). x.next) s) (ap (λ (x : Content). x.limits) s)
