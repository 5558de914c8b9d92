-- Once the version with a tag is replaced or removed, no document has the tag at present, whatever
-- the machine does later.
use Rattle.std.proofs.Common.{◌≡◌, ◌≢◌, ℕ, ◌<◌, Bool, true, false, cond, not, List, [], ◌∷◌, ◌++◌, map, flat_map, Option, Some, None, option_map, true≢false, refl, sym, ap, subst, ◌∙◌, arith}
use Rattle.std.specs.List.{AllByRecursion}
use Rattle.doc_names.specs.NameEquality.{same_id}
use Rattle.doc_names.specs.declared.doc_id.DocId.{DocId}
use Rattle.edit_ops.specs.Notes.{Note, note_of}
use Rattle.edit_ops.specs.declared.change.Change.{Change}
use Rattle.edit_ops.specs.declared.edit.Edit.{Edit}
use Rattle.store_core.specs.DocumentChanges.{ChangeKind, Makes, Edits, Removes, change_kind, state_after, state_after_by_kind, find_document, document_id, with_document, without_document}
use Rattle.store_core.specs.State.{Document, State, new_document, document_after, versions}
use Rattle.store_core.specs.ValidStates.{AreDistinct, IsValidState}
use Rattle.xcap_laws.proofs.FreshTags.{low_tag, next_number}
use Rattle.xcap_machine.proofs.OneVersion.{found_all}
use Rattle.xcap_machine.specs.Machine.{state_after_answer, change_from_edit}
use Rattle.xcap_machine.specs.ReachedStates.{ReachesByValidSteps, goes_on, stays}
use Rattle.xml_tree.specs.Tree.{Tree}

-- no document has this tag at present; and only the document of this name may have it
abbrev pub HaveOthers : ℕ → List Document → Type 0
HaveOthers t ds = AllByRecursion (λ d. d.now.tag ≡ t → ⊥) ds

abbrev pub OnlyOne : ℕ → DocId → List Document → Type 0
OnlyOne t id ds = AllByRecursion (λ d. d.now.tag ≡ t → same_id id d.id ≡ true) ds

-- ---- tags are distinct

abbrev tags_of : Document → List ℕ
tags_of d = map (λ v. v.tag) (versions d)

all_right : (P : ℕ → Type 0) (xs ys : List ℕ) → AllByRecursion P (xs ++ ys) → AllByRecursion P ys
all_right P [] ys h = h
all_right P (x ∷ xs) ys h = all_right P xs ys h.1

distinct_right : (xs ys : List ℕ) → AreDistinct (xs ++ ys) → AreDistinct ys
distinct_right [] ys h = h
distinct_right (x ∷ xs) ys h = distinct_right xs ys h.1

all_now : (P : ℕ → Type 0) (ds : List Document) → AllByRecursion P (flat_map tags_of ds) → AllByRecursion (λ d. P d.now.tag) ds
all_now P [] h = tt
all_now P (d ∷ ds) h = (h.0, all_now P ds (all_right P (map (λ v. v.tag) d.earlier) (flat_map tags_of ds) h.1))

none_of : (d : Document) (t : ℕ) (id : DocId) (ds : List Document) → d.now.tag ≡ t → AllByRecursion (λ e. d.now.tag ≢ e.now.tag) ds → OnlyOne t id ds
none_of d t id [] now h = tt
none_of d t id (e ∷ ds) now h = (λ same. absurd (h.0 (now ∙ sym same)), none_of d t id ds now h.1)

only_holder : (t : ℕ) (id : DocId) (ds : List Document) (held : Document) → AreDistinct (flat_map tags_of ds) → find_document document_id ds id ≡ Some held → held.now.tag ≡ t → OnlyOne t id ds
only_holder t id [] held apart is same = tt
only_holder t id (d ∷ ds) held apart is same = by (same_id id d.id) refl is (λ s. only_holder t id ds held (distinct_right (map (λ v. v.tag) d.earlier) (flat_map tags_of ds) apart.1) s same)
  where
    others : AllByRecursion (λ e. d.now.tag ≢ e.now.tag) ds
    others = all_now (λ y. d.now.tag ≢ y) ds (all_right (λ y. d.now.tag ≢ y) (map (λ v. v.tag) d.earlier) (flat_map tags_of ds) apart.0)

    by : (b : Bool) → same_id id d.id ≡ b → cond b (Some d) (find_document document_id ds id) ≡ Some held → (find_document document_id ds id ≡ Some held → OnlyOne t id ds) → (d.now.tag ≡ t → same_id id d.id ≡ true) × OnlyOne t id ds
    by true e s f =
        let is_d : d ≡ held = cc in
        (λ _. e, none_of d t id ds (ap (λ (x : Document). x.now.tag) is_d ∙ same) others)
    by false e s f = (λ h. absurd (found_all (λ x. d.now.tag ≢ x.now.tag) (λ x. same_id id x.id) ds held others s (h ∙ sym same)), f s)

-- ---- changes

module _ (t : ℕ) (id : DocId) where
  replaced : (next : ℕ) (note : Document → Note) (ds : List Document) → t < next → OnlyOne t id ds → HaveOthers t (with_document document_id (λ d. document_after next d (note d)) ds id)
  replaced next note [] less h = tt
  replaced next note (d ∷ ds) less h = (by (same_id id d.id) refl, replaced next note ds less h.1)
    where
      by : (b : Bool) → same_id id d.id ≡ b → (cond b (document_after next d (note d)) d).now.tag ≡ t → ⊥
      by true e is = let new : next ≡ t = is in omega (arith, less, new)
      by false e is = true≢false (sym (h.0 is) ∙ e)

  removed : (ds : List Document) → OnlyOne t id ds → HaveOthers t (without_document document_id ds id)
  removed [] h = tt
  removed (d ∷ ds) h = by (same_id id d.id) refl (removed ds h.1)
    where
      by : (b : Bool) → same_id id d.id ≡ b → HaveOthers t (without_document document_id ds id) → HaveOthers t (cond (not b) (d ∷ without_document document_id ds id) (without_document document_id ds id))
      by true e rest = rest
      by false e rest = (λ is. true≢false (sym (h.0 is) ∙ e), rest)

  weaken : (ds : List Document) → HaveOthers t ds → OnlyOne t id ds
  weaken [] h = tt
  weaken (d ∷ ds) h = (λ is. absurd (h.0 is), weaken ds h.1)

appended : (t : ℕ) (ds : List Document) (z : Document) → (z.now.tag ≡ t → ⊥) → HaveOthers t ds → HaveOthers t (ds ++ z ∷ [])
appended t [] z other h = (other, tt)
appended t (d ∷ ds) z other h = (h.0, appended t ds z other h.1)

-- a change other than a creation, of the one document that may have the tag
after_first : (t : ℕ) (m : State) (id : DocId) (change : Change) (act : ChangeKind) → t < m.next → ((root : Tree) → act ≡ Makes root → ⊥) → OnlyOne t id m.documents → HaveOthers t (state_after_by_kind m id change act).documents
after_first t m id change (Makes root) less never h = absurd (never root refl)
after_first t m id change Edits less never h = replaced t id m.next (λ d. note_of d.now.tag m.next d.now.tree change) m.documents less h
after_first t m id change Removes less never h = removed t id m.documents h

after_other : (t : ℕ) (m : State) (id : DocId) (change : Change) (act : ChangeKind) → t < m.next → HaveOthers t m.documents → HaveOthers t (state_after_by_kind m id change act).documents
after_other t m id change (Makes root) less h = appended t m.documents (new_document id m.next root) (λ is. let new : m.next ≡ t = is in omega (arith, less, new)) h
after_other t m id change Edits less h = replaced t id m.next (λ d. note_of d.now.tag m.next d.now.tree change) m.documents less (weaken t id m.documents h)
after_other t m id change Removes less h = removed t id m.documents (weaken t id m.documents h)

-- ---- runs

-- the tag was given, and no document has it at present
pub record IsPast (t : ℕ) (m : State) : Type 0 where
  pub given : t < m.next
  pub others : HaveOthers t m.documents

step_past : (t : ℕ) (m : State) (edit : Option Edit) → IsPast t m → IsPast t (state_after_answer m (option_map change_from_edit edit))
step_past t m None h = h
step_past t m (Some e) h = record {
  given = omega (arith, h.given, next_number m e.doc e.note.change (change_kind e.note.change));
  others = after_other t m e.doc e.note.change (change_kind e.note.change) h.given h.others;
}

pub run_past : (root : List ℕ) (t : ℕ) (m n : State) → ReachesByValidSteps root m n → IsPast t m → IsPast t n
run_past root t _ _ (stays m) h = h
run_past root t _ _ (goes_on m n last request reply edit step rest) h = run_past root t n last rest (subst (λ (s : State). IsPast t s) (sym step.1.goes_on) (step_past t m edit h))

pub first_past : (m : State) (e : Edit) (d : Document) → IsValidState m → find_document document_id m.documents e.doc ≡ Some d → ((root : Tree) → change_kind e.note.change ≡ Makes root → ⊥) → IsPast d.now.tag (state_after m e.doc e.note.change)
first_past m e d kept there never =
    let low : d.now.tag < m.next = low_tag m e.doc d.now kept (record { document = d; there = there; number = 0; is_version = refl }) in
    record {
      given = omega (arith, low, next_number m e.doc e.note.change (change_kind e.note.change));
      others = after_first d.now.tag m e.doc e.note.change (change_kind e.note.change) low never (only_holder d.now.tag e.doc m.documents d kept.tags there refl);
    }
