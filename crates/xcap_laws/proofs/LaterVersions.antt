-- The versions of a document after steps of the machine: those that it had, and newer ones before
-- them. So the changes since an old version are those to a version between, and those since it.
use Rattle.std.proofs.Common.{◌≡◌, ◌⊎◌, ℕ, zero, suc, ◌+◌, ◌<◌, ◌≤◌, Bool, true, false, cond, List, [], ◌∷◌, ◌++◌, length, take, reverse, Option, None, Some, option_map, slice_get, inl, inr, refl, sym, ap, ◌∙◌, subst, arith}
use Rattle.std.specs.List.{AllByRecursion}
use Rattle.std.proofs.lemmas.List.{reverse-append}
use Rattle.doc_names.specs.NameEquality.{same_id}
use Rattle.doc_names.specs.declared.doc_id.DocId.{DocId}
use Rattle.edit_ops.specs.declared.change.Change.{Change}
use Rattle.edit_ops.specs.declared.edit.Edit.{Edit}
use Rattle.edit_ops.specs.Notes.{Note, note_of}
use Rattle.edit_ops.specs.DiffOperations.{weight}
use Rattle.element_watch.specs.SelectionHistory.{notes_after}
use Rattle.store_core.specs.Contents.{contents_of}
use Rattle.store_core.specs.DocumentChanges.{ChangeKind, Edits, Makes, Removes, change_kind, state_after_by_kind, find_document, document_id}
use Rattle.store_core.specs.Since.{ReportedChanges, Unknown, since}
use Rattle.store_core.specs.State.{Document, State, Version, new_document, document_after, versions}
use Rattle.store_core.specs.ValidStates.{IsValidHistory, IsValidState}
use Rattle.store_core.proofs.Chains.{notes_of}
use Rattle.xcap_machine.specs.Answers.{MadeChange}
use Rattle.xcap_machine.specs.Machine.{state_after_answer, change_from_edit}
use Rattle.xcap_machine.specs.ReachedStates.{ReachesByValidSteps, HasVersion, goes_on, stays}
use Rattle.xcap_machine.proofs.Documents.{found_edited, found_less, found_more}
use Rattle.xcap_machine.proofs.OneVersion.{found_all}
use Rattle.xcap_laws.specs.RetainedVersions.{changes_after_version, is_retainable}
use Rattle.xcap_laws.proofs.KnownChanges.{known_exactly, retainable_back}

-- ---- lists of versions

noted_append : (vs ws : List Version) → notes_of (vs ++ ws) ≡ notes_of vs ++ notes_of ws
noted_append [] ws = refl
noted_append (v ∷ vs) ws = by v.note refl (noted_append vs ws)
  where
    by : (o : Option Note) → v.note ≡ o → notes_of (vs ++ ws) ≡ notes_of vs ++ notes_of ws → notes_of (v ∷ (vs ++ ws)) ≡ notes_of (v ∷ vs) ++ notes_of ws
    by None e h = rw e h
    by (Some n) e h = rw e (ap (λ (l : List Note). n ∷ l) h)

taken_past : (news vs : List Version) (i : ℕ) → take (length news + i) (news ++ vs) ≡ news ++ take i vs
taken_past [] vs i = ap (λ (k : ℕ). take k vs) (zero_plus i)
  where
    zero_plus : (k : ℕ) → 0 + k ≡ k
    zero_plus k = omega arith
taken_past (w ∷ news) vs i = ap (λ (k : ℕ). take k (w ∷ (news ++ vs))) (one_more (length news) i) ∙ ap (λ (l : List Version). w ∷ l) (taken_past news vs i)
  where
    one_more : (k l : ℕ) → suc k + l ≡ suc (k + l)
    one_more k l = omega arith

item_past : (news vs : List Version) (i : ℕ) → slice_get (news ++ vs) (length news + i) ≡ slice_get vs i
item_past [] vs i = ap (slice_get vs) (zero_plus i)
  where
    zero_plus : (k : ℕ) → 0 + k ≡ k
    zero_plus k = omega arith
item_past (w ∷ news) vs i = ap (slice_get (w ∷ (news ++ vs))) (one_more (length news) i) ∙ item_past news vs i
  where
    one_more : (k l : ℕ) → suc k + l ≡ suc (k + l)
    one_more k l = omega arith

taken_new : (news vs : List Version) → take (length news) (news ++ vs) ≡ news
taken_new [] vs = refl
taken_new (w ∷ news) vs = ap (λ (l : List Version). w ∷ l) (taken_new news vs)

first_past : (news vs : List Version) → slice_get (news ++ vs) (length news) ≡ slice_get vs 0
first_past [] vs = refl
first_past (w ∷ news) vs = first_past news vs

-- the changes to a version between, and those since it
pub notes_in_two : (news vs : List Version) (i : ℕ) → notes_after (length news + i) (news ++ vs) ≡ notes_after i vs ++ notes_after (length news) (news ++ vs)
notes_in_two news vs i =
    ap (λ (l : List Version). reverse (notes_of l)) (taken_past news vs i)
    ∙ ap reverse (noted_append news (take i vs))
    ∙ reverse-append (notes_of news) (notes_of (take i vs))
    ∙ ap (λ (l : List Version). reverse (notes_of (take i vs)) ++ reverse (notes_of l)) (sym (taken_new news vs))

-- ---- known changes

known_notes : (number : ℕ) (d : Document) (ns : List Note) → changes_after_version number d ≡ ReportedChanges ns → (is_retainable weight (notes_after number (versions d)) ≡ true) × (notes_after number (versions d) ≡ ns)
known_notes number d ns is = by (is_retainable weight (notes_after number (versions d))) refl is
  where
    by : (b : Bool) → is_retainable weight (notes_after number (versions d)) ≡ b → cond b (ReportedChanges (notes_after number (versions d))) Unknown ≡ ReportedChanges ns
        → (is_retainable weight (notes_after number (versions d)) ≡ true) × (notes_after number (versions d) ≡ ns)
    by true e s = (e, cc)
    by false e s = absurd cc

pub retainable_end : (w : Note → ℕ) (xs ys : List Note) → is_retainable w (xs ++ ys) ≡ true → is_retainable w ys ≡ true
retainable_end w [] ys is = is
retainable_end w (x ∷ xs) [] is = refl
retainable_end w (x ∷ []) (y ∷ ys) is = retainable_back w (x ∷ []) y ys is
retainable_end w (x ∷ z ∷ xs) (y ∷ ys) is = retainable_back w (x ∷ z ∷ xs) y ys is

-- ---- a document after steps

-- a document with this name has all versions of `d`, or only ones with later numbers
abbrev IsLater : ℕ → Document → Document → Type 0
IsLater first d e = ((news : List Version) × (versions e ≡ news ++ versions d)) ⊎ AllByRecursion (λ v. first ≤ v.tag) (versions e)

record AreLater (first : ℕ) (id : DocId) (d : Document) (s : State) : Type 0 where
  given : first ≤ s.next
  all : (e : Document) → find_document document_id s.documents id ≡ Some e → IsLater first d e

later_made : (first : ℕ) (d e : Document) (other : DocId) (next : ℕ) (root : _) → first ≤ next → e ≡ new_document other next root → IsLater first d e
later_made first d e other next root le same = subst (IsLater first d) (sym same) (inr (le, tt))

later_edited : (first : ℕ) (d e : Document) (next : ℕ) (n : Note) → first ≤ next → IsLater first d e → IsLater first d (document_after next e n)
later_edited first d e next n le (inl h) = inl ((document_after next e n).now ∷ h.0, ap (λ (l : List Version). (document_after next e n).now ∷ l) h.1)
later_edited first d e next n le (inr h) = inr (le, h)

next_up : (s : State) (id : DocId) (change : Change) (act : ChangeKind) → s.next ≤ (state_after_by_kind s id change act).next
next_up s id change (Makes root) = omega arith
next_up s id change Edits = omega arith
next_up s id change Removes = omega arith

module _ (first : ℕ) (id : DocId) (d : Document) where
  edited_one : (s : State) (x e : Document) (n : Note) → AreLater first id d s → find_document document_id s.documents id ≡ Some x → (e ≡ x) ⊎ (e ≡ document_after s.next x n) → IsLater first d e
  edited_one s x e n h there (inl same) = subst (IsLater first d) (sym same) (h.all x there)
  edited_one s x e n h there (inr same) = subst (IsLater first d) (sym same) (later_edited first d x s.next n h.given (h.all x there))

  after_one : (s : State) (other : DocId) (change : Change) (act : ChangeKind) → AreLater first id d s → (e : Document) → find_document document_id (state_after_by_kind s other change act).documents id ≡ Some e → IsLater first d e
  after_one s other change (Makes root) h e is = by (found_more s.documents (new_document other s.next root) e id is)
    where
      by : (find_document document_id s.documents id ≡ Some e) ⊎ (e ≡ new_document other s.next root) → IsLater first d e
      by (inl there) = h.all e there
      by (inr same) = later_made first d e other s.next root h.given same
  after_one s other change Edits h e is =
      let note : Document → Note = λ x. note_of x.now.tag s.next x.now.tree change in
      let f = found_edited s.next note s.documents other id e is in
      edited_one s f.0 e (note f.0) h f.1 f.2
  after_one s other change Removes h e is = h.all e (found_less s.documents other id e is)

  after_made : (s : State) (made : MadeChange) → AreLater first id d s → AreLater first id d (state_after_answer s (Some made))
  after_made s made h = record {
    given = omega (arith, h.given, next_up s made.0 made.1.change (change_kind made.1.change));
    all = after_one s made.0 made.1.change (change_kind made.1.change) h;
  }

  after_told : (s : State) (edit : Option Edit) → AreLater first id d s → AreLater first id d (state_after_answer s (option_map change_from_edit edit))
  after_told s None h = h
  after_told s (Some e) h = after_made s (change_from_edit e) h

  after_steps : (root : List ℕ) (m n : State) → ReachesByValidSteps root m n → AreLater first id d m → AreLater first id d n
  after_steps root _ _ (stays m) h = h
  after_steps root _ _ (goes_on m n last request reply edit step rest) h = after_steps root n last rest (subst (AreLater first id d) (sym step.1.goes_on) (after_told m edit h))

valid_after : (root : List ℕ) (m n : State) → ReachesByValidSteps root m n → IsValidState m → IsValidState n
valid_after root _ _ (stays m) h = h
valid_after root _ _ (goes_on m n last request reply edit step rest) h = valid_after root n last rest step.2

high_tag : (first : ℕ) (vs : List Version) (k : ℕ) (v : Version) → AllByRecursion (λ x. first ≤ x.tag) vs → slice_get vs k ≡ Some v → first ≤ v.tag
high_tag first [] k v all is = absurd cc
high_tag first (x ∷ vs) zero v all is = let same : x ≡ v = cc in subst (λ (y : Version). first ≤ y.tag) same all.0
high_tag first (x ∷ vs) (suc k) v all is = high_tag first vs k v all.1 is

same_document : (o : Option Document) (d e : Document) → o ≡ Some d → o ≡ Some e → e ≡ d
same_document o d e a b = let both : Some e ≡ Some d = sym b ∙ a in cc

-- a document that still has the version that was current has all that it had
pub still_there : (root : List ℕ) (m n : State) (id : DocId) (d : Document) → IsValidState m → ReachesByValidSteps root m n → find_document document_id m.documents id ≡ Some d → (has : HasVersion n id d.now) → (news : List Version) × (versions has.document ≡ news ++ versions d)
still_there root m n id d kept reaches there has = by (later.all has.document has.there)
  where
    later : AreLater m.next id d n
    later =
        after_steps m.next id d root m n reaches
        (record { given = omega arith; all = λ e is. inl ([], ap versions (same_document (find_document document_id m.documents id) d e there is)) })

    low : d.now.tag < m.next
    low = (found_all (IsValidHistory m.next) (λ x. same_id id x.id) m.documents d kept.documents there).tags.0.1

    by : IsLater m.next d has.document → (news : List Version) × (versions has.document ≡ news ++ versions d)
    by (inl h) = h
    by (inr high) = absurd (omega (arith, low, high_tag m.next (versions has.document) has.number d.now high has.is_version))

-- ---- what is told in two parts

pub told_once : (root : List ℕ) (m n : State) (id : DocId) (d : Document) (number : ℕ) (u : Version) (earlier all : List Note) → IsValidState m → ReachesByValidSteps root m n → find_document document_id m.documents id ≡ Some d → slice_get (versions d) number ≡ Some u
    → HasVersion n id d.now → since (contents_of m) id u.tag ≡ ReportedChanges earlier → since (contents_of n) id u.tag ≡ ReportedChanges all → (later : List Note) × (since (contents_of n) id d.now.tag ≡ ReportedChanges later) × (all ≡ earlier ++ later)
told_once root m n id d number u earlier all kept reaches there is has before now =
    let e = has.document in
    let kept_on = valid_after root m n reaches kept in
    let more = still_there root m n id d kept reaches there has in
    let k = length more.0 in
    let old : notes_after number (versions d) ≡ earlier = (known_notes number d earlier (sym (known_exactly (contents_of m) m id d number u kept refl there is) ∙ before)).1 in
    let u_there : slice_get (versions e) (k + number) ≡ Some u = ap (λ (l : List Version). slice_get l (k + number)) more.1 ∙ item_past more.0 (versions d) number ∙ is in
    let v_there : slice_get (versions e) k ≡ Some d.now = ap (λ (l : List Version). slice_get l k) more.1 ∙ first_past more.0 (versions d) in
    let whole = known_notes (k + number) e all (sym (known_exactly (contents_of n) n id e (k + number) u kept_on refl has.there u_there) ∙ now) in
    let parts : notes_after (k + number) (versions e) ≡ notes_after number (versions d) ++ notes_after k (versions e) =
    ap (notes_after (k + number)) more.1 ∙ notes_in_two more.0 (versions d) number ∙ ap (λ (l : List Version). notes_after number (versions d) ++ notes_after k l) (sym more.1) in
    let rest : is_retainable weight (notes_after k (versions e)) ≡ true = retainable_end weight (notes_after number (versions d)) (notes_after k (versions e)) (ap (is_retainable weight) (sym parts) ∙ whole.0) in (
      notes_after k (versions e),
      known_exactly (contents_of n) n id e k d.now kept_on refl has.there v_there ∙ ap (λ (b : Bool). cond b (ReportedChanges (notes_after k (versions e))) Unknown) rest,
      sym whole.1 ∙ parts ∙ ap (λ (l : List Note). l ++ notes_after k (versions e)) old,
    )
