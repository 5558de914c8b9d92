-- A document has one version of each tag, and the result of a since-query says whether it is the
-- current one.
use Rattle.std.proofs.Common.{◌≡◌, ℕ, zero, suc, ◌<◌, Bool, true, false, cond, List, [], ◌∷◌, map, Option, Some, None, find, option_map, slice_get, refl, sym, ap, ◌∙◌, subst, arith}
use Rattle.std.specs.Prelude.{◌==◌}
use Rattle.std.specs.List.{AllByRecursion}
use Rattle.doc_names.specs.NameEquality.{same_id}
use Rattle.doc_names.specs.declared.doc_id.DocId.{DocId}
use Rattle.edit_ops.specs.Notes.{Note}
use Rattle.patch_rules.specs.Replay.{Patched, Same}
use Rattle.patch_laws.specs.ReplayLaws.{answer_of_notes}
use Rattle.store_core.specs.DocumentChanges.{find_document, document_id, stored_id}
use Rattle.store_core.specs.Contents.{Represents, stored_document, StoreContents as Content}
use Rattle.store_core.specs.ValidStates.{AreSuccessiveVersions}
use Rattle.store_core.specs.Since.{ReportedChanges, notes_from, since}
use Rattle.store_core.specs.inner.ChangesSince.{stored_changes_since, changes_since_of}
use Rattle.store_core.specs.State.{Document, State, Version, notes, retained_notes}
use Rattle.xcap_machine.specs.SubscriberReplicas.{patch_answer_between}

-- ---- tags decrease from the current version on

lower : (k n : ℕ) (ws : List Version) → k < n → AllByRecursion (λ w. w.tag < k) ws → AllByRecursion (λ w. w.tag < n) ws
lower k n [] lt h = tt
lower k n (w ∷ ws) lt h = (omega (arith, h.0, lt), lower k n ws lt h.1)

falls : (v : Version) (ws : List Version) → AreSuccessiveVersions v ws → AllByRecursion (λ w. w.tag < v.tag) ws
falls v [] h = tt
falls v (w ∷ ws) h = (h.1, lower w.tag v.tag ws h.1 (falls w ws h.2))

below : (n : ℕ) (ws : List Version) (k : ℕ) (x : Version) → AllByRecursion (λ w. w.tag < n) ws → slice_get ws k ≡ Some x → x.tag < n
below n [] k x h is = cc
below n (w ∷ ws) zero x h is = let same : w ≡ x = cc in subst (λ (v : Version). v.tag < n) same h.0
below n (w ∷ ws) (suc k) x h is = below n ws k x h.1 is

pub one_version : (v : Version) (ws : List Version) (i j : ℕ) (x y : Version) → AreSuccessiveVersions v ws → slice_get (v ∷ ws) i ≡ Some x → slice_get (v ∷ ws) j ≡ Some y → x.tag ≡ y.tag → x ≡ y
one_version v ws zero zero x y h a b e = let first : v ≡ x = cc in let second : v ≡ y = cc in sym first ∙ second
one_version v ws zero (suc j) x y h a b e =
    let same : v ≡ x = cc in
    let lt : y.tag < v.tag = below v.tag ws j y (falls v ws h) b in
    absurd (omega (arith, lt, e, ap (λ (z : Version). z.tag) same))
one_version v ws (suc i) zero x y h a b e =
    let same : v ≡ y = cc in
    let lt : x.tag < v.tag = below v.tag ws i x (falls v ws h) a in
    absurd (omega (arith, lt, e, ap (λ (z : Version). z.tag) same))
one_version v [] (suc i) (suc j) x y h a b e = cc
one_version v (w ∷ ws) (suc i) (suc j) x y h a b e = one_version w ws i j x y h.2 a b e

-- ---- the document that is found

pub found_all : {A : Type 0} (P : A → Type 0) (q : A → Bool) (xs : List A) (x : A) → AllByRecursion P xs → find q xs ≡ Some x → P x
found_all {A = A} P q [] x h is = cc
found_all {A = A} P q (y ∷ ys) x h is = by (q y) is (found_all P q ys x h.1)
  where
    by : (b : Bool) → cond b (Some y) (find q ys) ≡ Some x → (find q ys ≡ Some x → P x) → P x
    by true s f = let same : y ≡ x = cc in subst P same h.0
    by false s f = f s

pub held_there : (ds : List Document) (id : DocId) → find_document stored_id (map stored_document ds) id ≡ option_map stored_document (find_document document_id ds id)
held_there [] id = refl
held_there (d ∷ ds) id = by (same_id id d.id) (held_there ds id)
  where
    by : (b : Bool) → find_document stored_id (map stored_document ds) id ≡ option_map stored_document (find_document document_id ds id)
        → cond b (Some (stored_document d)) (find_document stored_id (map stored_document ds) id) ≡ option_map stored_document (cond b (Some d) (find_document document_id ds id))
    by true h = refl
    by false h = h

-- ---- the result of a since-query

some_notes : (tag : ℕ) (xs ns : List Note) → notes_from tag xs ≡ Some ns → answer_of_notes ns ≡ Patched
some_notes tag [] ns h = cc
some_notes tag (x ∷ xs) ns h = by (x.previous == tag) h (some_notes tag xs ns)
  where
    by : (b : Bool) → cond b (Some (x ∷ xs)) (notes_from tag xs) ≡ Some ns → (notes_from tag xs ≡ Some ns → answer_of_notes ns ≡ Patched) → answer_of_notes ns ≡ Patched
    by true s f = let same : x ∷ xs ≡ ns = cc in ap answer_of_notes (sym same)
    by false s f = f s

by_story : (tag : ℕ) (xs ns : List Note) (o : Option (List Note)) → notes_from tag xs ≡ o → changes_since_of o ≡ ReportedChanges ns → answer_of_notes ns ≡ Patched
by_story tag xs ns None e s = absurd (cc)
by_story tag xs ns (Some ms) e s = let same : ms ≡ ns = cc in some_notes tag xs ns (e ∙ ap (λ (l : List Note). Some l) same)

by_tag : (d : Document) (tag : ℕ) (ns : List Note) (b : Bool) → cond b (ReportedChanges []) (changes_since_of (notes_from tag (retained_notes (notes d)))) ≡ ReportedChanges ns → answer_of_notes ns ≡ cond b Same Patched
by_tag d tag ns true s = let none : [] ≡ ns = cc in ap answer_of_notes (sym none)
by_tag d tag ns false s = by_story tag (retained_notes (notes d)) ns (notes_from tag (retained_notes (notes d))) refl s

pub answered : (c : Content) (m : State) (id : DocId) (d : Document) (from : Version) (ns : List Note) → Represents c m → find_document document_id m.documents id ≡ Some d → since c id from.tag ≡ ReportedChanges ns
    → answer_of_notes ns ≡ patch_answer_between from d.now
answered c m id d from ns stands there is =
    let held : find_document stored_id (map stored_document m.documents) id ≡ Some (stored_document d) = held_there m.documents id ∙ ap (option_map stored_document) there in
    let told : stored_changes_since from.tag (Some (stored_document d)) ≡ ReportedChanges ns =
    ap (stored_changes_since from.tag) (sym held) ∙ ap (λ (x : Content). stored_changes_since from.tag (find_document stored_id x.documents id)) (sym stands) ∙ is in
    by_tag d from.tag ns (d.now.tag == from.tag) told
