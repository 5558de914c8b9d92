-- Contents that have the documents of a state have, after a change, those of the state after it.
use Rattle.std.proofs.Common.{◌≡◌, ℕ, ◌+◌, Bool, not, cond, List, [], ◌∷◌, ◌++◌, map, filter, refl, sym, ap, subst, ◌∙◌}
use Rattle.std.proofs.lemmas.List.{map-append}
use Rattle.xml_tree.specs.Tree.{Tree}
use Rattle.doc_names.specs.declared.doc_id.DocId.{DocId}
use Rattle.doc_names.specs.NameEquality.{same_id}
use Rattle.edit_ops.specs.Changes.{edited}
use Rattle.edit_ops.specs.declared.change.Change.{Change}
use Rattle.edit_ops.specs.Notes.{note_of}
use Rattle.store_core.specs.State.{Document, State, document_after, new_document}
use Rattle.store_core.specs.Contents.{HasDocumentsOf, Represents, StoredDocument, document_now, stored_now, stored_document, StoreContents as Content}
use Rattle.store_core.specs.DocumentChanges.{ChangeKind, Makes, Edits, Removes, change_kind, state_after, state_after_by_kind, contents_after, contents_after_by_kind, stored_document_after}
use Rattle.store_core.proofs.StateContents.{map-exchanged, map-filtered}

abbrev Present : Type 0
Present = DocId × ℕ × Tree

-- a document after an edit, as it is then
abbrev edited_at : ℕ → Change → Present → Present
edited_at number change p = (p.0, number, edited p.2 change)

abbrev edited_in : ℕ → Change → DocId → Present → Present
edited_in number change id p = cond (same_id id p.0) (edited_at number change p) p

abbrev others : DocId → Present → Bool
others id p = not (same_id id p.0)

abbrev stored_new : DocId → ℕ → Tree → StoredDocument
stored_new id number root = record { id = id; tag = number; tree = root; notes = [] }

present_after : (c : Content) (m : State) (id : DocId) (change : Change) (act : ChangeKind) → map stored_now c.documents ≡ map document_now m.documents → c.next ≡ m.next
    → map stored_now (contents_after_by_kind c id change act).documents ≡ map document_now (state_after_by_kind m id change act).documents
present_after c m id change (Makes root) same number =
    map-append stored_now c.documents (stored_new id c.next root ∷ [])
    ∙ ap (λ (ps : List Present). ps ++ (id, c.next, root) ∷ []) same
    ∙ ap (λ (n : ℕ). map document_now m.documents ++ (id, n, root) ∷ []) number
    ∙ sym (map-append document_now m.documents (new_document id m.next root ∷ []))
present_after c m id change Edits same number =
    map-exchanged stored_now (λ (h : StoredDocument). same_id id h.id) (λ (p : Present). same_id id p.0) (λ h. refl) (stored_document_after c.next change) (edited_at c.next change) (λ h. refl) c.documents
    ∙ ap (λ (ps : List Present). map (edited_in c.next change id) ps) same
    ∙ ap (λ (n : ℕ). map (edited_in n change id) (map document_now m.documents)) number
    ∙ sym (map-exchanged document_now (λ (d : Document). same_id id d.id) (λ (p : Present). same_id id p.0) (λ d. refl) (λ (d : Document). document_after m.next d (note_of d.now.tag m.next d.now.tree change)) (edited_at m.next change) (λ d. refl) m.documents)
present_after c m id change Removes same number =
    map-filtered stored_now (λ (h : StoredDocument). not (same_id id h.id)) (others id) (λ h. refl) c.documents
    ∙ ap (λ (ps : List Present). filter (others id) ps) same
    ∙ sym (map-filtered document_now (λ (d : Document). not (same_id id d.id)) (others id) (λ d. refl) m.documents)

number_after : (c : Content) (m : State) (id : DocId) (change : Change) (act : ChangeKind) → c.next ≡ m.next → (contents_after_by_kind c id change act).next ≡ (state_after_by_kind m id change act).next
number_after c m id change (Makes root) number = ap (λ (n : ℕ). n + 1) number
number_after c m id change Edits number = ap (λ (n : ℕ). n + 1) number
number_after c m id change Removes number = ap (λ (n : ℕ). n + 1) number

limits_after : (c : Content) (m : State) (id : DocId) (change : Change) (act : ChangeKind) → c.limits ≡ m.limits → (contents_after_by_kind c id change act).limits ≡ (state_after_by_kind m id change act).limits
limits_after c m id change (Makes root) same = same
limits_after c m id change Edits same = same
limits_after c m id change Removes same = same

pub has_documents_after : (c : Content) (m : State) (id : DocId) (change : Change) → HasDocumentsOf c m → HasDocumentsOf (contents_after c id change) (state_after m id change)
has_documents_after c m id change has = record {
  documents = present_after c m id change (change_kind change) has.documents has.next;
  next = number_after c m id change (change_kind change) has.next;
  limits = limits_after c m id change (change_kind change) has.limits;
}

same_now : (ds : List Document) → map stored_now (map stored_document ds) ≡ map document_now ds
same_now [] = refl
same_now (d ∷ ds) = ap (λ (ps : List Present). document_now d ∷ ps) (same_now ds)

-- contents that represent a state have its documents
pub represented : (c : Content) (m : State) → Represents c m → HasDocumentsOf c m
represented c m stands = subst (λ (x : Content). HasDocumentsOf x m) (sym stands) (record { documents = same_now m.documents; next = refl; limits = refl })
