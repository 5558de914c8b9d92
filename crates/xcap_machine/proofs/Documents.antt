-- The documents that are found after a change: the earlier ones, one of them with one more
-- version, or a new one.
use Rattle.std.proofs.Common.{◌≡◌, ◌⊎◌, ℕ, Bool, true, false, cond, not, List, [], ◌∷◌, ◌++◌, Some, None, filter, find, inl, inr, true≢false, refl, sym, ap, ◌∙◌}
use Rattle.doc_names.specs.NameEquality.{same_id}
use Rattle.doc_names.specs.declared.doc_id.DocId.{DocId}
use Rattle.doc_names.proofs.SameIds.{id_exact}
use Rattle.edit_ops.specs.Notes.{Note}
use Rattle.store_core.specs.DocumentChanges.{find_document, document_id, with_document, without_document}
use Rattle.store_core.specs.State.{Document, document_after}

-- ---- lists

found_passes : {A : Type 0} (q : A → Bool) (xs : List A) (x : A) → find q xs ≡ Some x → q x ≡ true
found_passes {A = A} q [] x is = absurd cc
found_passes {A = A} q (y ∷ ys) x is = by (q y) refl is (found_passes q ys x)
  where
    by : (b : Bool) → q y ≡ b → cond b (Some y) (find q ys) ≡ Some x → (find q ys ≡ Some x → q x ≡ true) → q x ≡ true
    by true e s f = let same : y ≡ x = cc in ap q (sym same) ∙ e
    by false e s f = f s

found_kept : {A : Type 0} (p q : A → Bool) (xs : List A) (x : A) → find q (filter p xs) ≡ Some x → p x ≡ true
found_kept {A = A} p q [] x is = absurd cc
found_kept {A = A} p q (y ∷ ys) x is = by (p y) refl is (found_kept p q ys x)
  where
    first : (c : Bool) → p y ≡ true → cond c (Some y) (find q (filter p ys)) ≡ Some x → (find q (filter p ys) ≡ Some x → p x ≡ true) → p x ≡ true
    first true e s f = let same : y ≡ x = cc in ap p (sym same) ∙ e
    first false e s f = f s

    by : (b : Bool) → p y ≡ b → find q (cond b (y ∷ filter p ys) (filter p ys)) ≡ Some x → (find q (filter p ys) ≡ Some x → p x ≡ true) → p x ≡ true
    by true e s f = first (q y) e s f
    by false e s f = f s

-- ---- documents

pub found_more : (ds : List Document) (z x : Document) (id : DocId) → find_document document_id (ds ++ z ∷ []) id ≡ Some x → (find_document document_id ds id ≡ Some x) ⊎ (x ≡ z)
found_more [] z x id is = by (same_id id z.id) is
  where
    by : (b : Bool) → cond b (Some z) None ≡ Some x → (find_document document_id [] id ≡ Some x) ⊎ (x ≡ z)
    by true s = let same : z ≡ x = cc in inr (sym same)
    by false s = absurd cc
found_more (d ∷ ds) z x id is = by (same_id id d.id) is (found_more ds z x id)
  where
    by : (b : Bool) → cond b (Some d) (find_document document_id (ds ++ z ∷ []) id) ≡ Some x
        → (find_document document_id (ds ++ z ∷ []) id ≡ Some x → (find_document document_id ds id ≡ Some x) ⊎ (x ≡ z))
        → (cond b (Some d) (find_document document_id ds id) ≡ Some x) ⊎ (x ≡ z)
    by true s f = inl s
    by false s f = f s

pub found_less : (ds : List Document) (other id : DocId) (x : Document) → find_document document_id (without_document document_id ds other) id ≡ Some x → find_document document_id ds id ≡ Some x
found_less [] other id x is = is
found_less (d ∷ ds) other id x is = by (same_id other d.id) refl is (found_less ds other id x)
  where
    -- what is found after the document that is removed isn't of the same name
    apart : (b : Bool) → same_id id d.id ≡ b → same_id other d.id ≡ true → find_document document_id (without_document document_id ds other) id ≡ Some x → same_id id d.id ≡ false
    apart true e gone s =
        let q = found_passes (λ y. same_id id y.id) (without_document document_id ds other) x s in
        let p = found_kept (λ y. not (same_id other y.id)) (λ y. same_id id y.id) ds x s in
        let names : other ≡ id = id_exact other d.id gone ∙ sym (id_exact id d.id e) in
        absurd (true≢false (sym p ∙ ap not (ap (λ (n : DocId). same_id n x.id) names ∙ q)))
    apart false e gone s = e

    first : (c : Bool) → cond c (Some d) (find_document document_id (without_document document_id ds other) id) ≡ Some x
        → (find_document document_id (without_document document_id ds other) id ≡ Some x → find_document document_id ds id ≡ Some x)
        → cond c (Some d) (find_document document_id ds id) ≡ Some x
    first true s f = s
    first false s f = f s

    by : (b : Bool) → same_id other d.id ≡ b
        → find_document document_id (cond (not b) (d ∷ without_document document_id ds other) (without_document document_id ds other)) id ≡ Some x
        → (find_document document_id (without_document document_id ds other) id ≡ Some x → find_document document_id ds id ≡ Some x)
        → find_document document_id (d ∷ ds) id ≡ Some x
    by true e s f = rw (apart (same_id id d.id) refl e s) (f s)
    by false e s f = first (same_id id d.id) s f

pub found_edited : (next : ℕ) (note : Document → Note) (ds : List Document) (other id : DocId) (x : Document)
    → find_document document_id (with_document document_id (λ d. document_after next d (note d)) ds other) id ≡ Some x
    → (d : Document) × (find_document document_id ds id ≡ Some d) × ((x ≡ d) ⊎ (x ≡ document_after next d (note d)))
found_edited next note [] other id x is = absurd cc
found_edited next note (d ∷ ds) other id x is = by (same_id other d.id) is (found_edited next note ds other id x)
  where
    here : (c : Bool) (y : Document) → (x ≡ y → (x ≡ d) ⊎ (x ≡ document_after next d (note d)))
        → cond c (Some y) (find_document document_id (with_document document_id (λ e. document_after next e (note e)) ds other) id) ≡ Some x
        → (find_document document_id (with_document document_id (λ e. document_after next e (note e)) ds other) id ≡ Some x
        → (e : Document) × (find_document document_id ds id ≡ Some e) × ((x ≡ e) ⊎ (x ≡ document_after next e (note e))))
        → (e : Document) × (cond c (Some d) (find_document document_id ds id) ≡ Some e) × ((x ≡ e) ⊎ (x ≡ document_after next e (note e)))
    here true y is_y s f = let same : y ≡ x = cc in (d, refl, is_y (sym same))
    here false y is_y s f = f s

    by : (b : Bool) → find_document document_id (cond b (document_after next d (note d)) d ∷ with_document document_id (λ e. document_after next e (note e)) ds other) id ≡ Some x
        → (find_document document_id (with_document document_id (λ e. document_after next e (note e)) ds other) id ≡ Some x
        → (e : Document) × (find_document document_id ds id ≡ Some e) × ((x ≡ e) ⊎ (x ≡ document_after next e (note e))))
        → (e : Document) × (find_document document_id (d ∷ ds) id ≡ Some e) × ((x ≡ e) ⊎ (x ≡ document_after next e (note e)))
    by true s f = here (same_id id d.id) (document_after next d (note d)) (λ same. inr same) s f
    by false s f = here (same_id id d.id) d (λ same. inl same) s f
