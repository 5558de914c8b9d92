-- The change records since a version: they begin with the one that continues from it, and are
-- found in what is retained where all of them are.
use Rattle.std.proofs.Common.{◌≡◌, ℕ, zero, suc, ◌+◌, ◌<◌, ◌≤◌, Bool, true, false, ◌&&◌, nat_le, cond, List, [], ◌∷◌, ◌++◌, length, take, drop, reverse, sum_by, Option, None, Some, option_map, slice_get, refl, sym, ap, ◌∙◌, subst, arith, length-append, eqb-true}
use Rattle.std.specs.Prelude.{◌==◌}
use Rattle.std.proofs.lemmas.Bool.{eq-eqb}
use Rattle.std.proofs.lemmas.Bool.Decides.{nat_tests}
use Rattle.std.proofs.lemmas.List.{reverse-append}
use Rattle.std.proofs.lemmas.List.Sums.{sum_by-append}
use Rattle.std.specs.List.{AllByRecursion}
use Rattle.doc_names.specs.NameEquality.{same_id}
use Rattle.doc_names.specs.declared.doc_id.DocId.{DocId}
use Rattle.edit_ops.specs.Notes.{Note}
use Rattle.edit_ops.specs.DiffOperations.{weight}
use Rattle.element_watch.specs.SelectionHistory.{notes_after}
use Rattle.store_core.specs.Contents.{Represents, StoreContents, stored_document}
use Rattle.store_core.specs.DocumentChanges.{find_document, document_id, stored_id}
use Rattle.store_core.specs.Since.{ReportedChanges, Unknown, notes_from, since}
use Rattle.store_core.specs.inner.ChangesSince.{stored_changes_since, changes_since_of}
use Rattle.store_core.specs.State.{Document, State, Version, is_within_retention, notes, retained_notes, longest_retained_end, versions}
use Rattle.store_core.specs.ValidStates.{AreSuccessiveVersions, IsValidHistory, IsValidState}
use Rattle.store_core.proofs.Chains.{notes_of}
use Rattle.xcap_machine.proofs.OneVersion.{found_all, held_there}
use Rattle.xcap_laws.specs.RetainedVersions.{changes_after_version, is_retainable}

-- ---- records from a tag on

-- a tag that no record continues from
none_from : (tag : ℕ) (ns : List Note) → AllByRecursion (λ m. tag < m.previous) ns → notes_from tag ns ≡ None
none_from tag [] all = refl
none_from tag (n ∷ ns) all = by (n.previous == tag) refl (none_from tag ns all.1)
  where
    by : (b : Bool) → n.previous == tag ≡ b → notes_from tag ns ≡ None → cond b (Some (n ∷ ns)) (notes_from tag ns) ≡ None
    by true e h = absurd (omega (arith, all.0, eqb-true n.previous tag e))
    by false e h = h

-- earlier records are passed over
from_later : (tag : ℕ) (front ns : List Note) → AllByRecursion (λ m. m.previous < tag) front → notes_from tag (front ++ ns) ≡ notes_from tag ns
from_later tag [] ns all = refl
from_later tag (n ∷ front) ns all = by (n.previous == tag) refl (from_later tag front ns all.1)
  where
    by : (b : Bool) → n.previous == tag ≡ b → notes_from tag (front ++ ns) ≡ notes_from tag ns → cond b (Some (n ∷ (front ++ ns))) (notes_from tag (front ++ ns)) ≡ notes_from tag ns
    by true e h = absurd (omega (arith, all.0, eqb-true n.previous tag e))
    by false e h = h

from_here : (tag : ℕ) (n : Note) (ms : List Note) → n.previous ≡ tag → notes_from tag (n ∷ ms) ≡ Some (n ∷ ms)
from_here tag n ms same = ap (λ (b : Bool). cond b (Some (n ∷ ms)) (notes_from tag ms)) (eq-eqb n.previous tag same)

-- ---- ends that are retained

module _ (w : Note → ℕ) where
  lighter : (n m s t : ℕ) → n ≤ m → s ≤ t → (nat_le m 64 && nat_le t 65536) ≡ true → (nat_le n 64 && nat_le s 65536) ≡ true
  lighter n m s t few light e = grind (arith, nat_tests)

  small_back : (front ns : List Note) → is_within_retention w (front ++ ns) ≡ true → is_within_retention w ns ≡ true
  small_back front ns e =
      lighter (length ns) (length (front ++ ns)) (sum_by w ns) (sum_by w (front ++ ns)) (omega (arith, length-append front ns)) (omega (arith, sum_by-append w front ns)) e

  pub retainable_back : (front : List Note) (n : Note) (ms : List Note) → is_within_retention w (front ++ n ∷ ms) ≡ true → is_retainable w (n ∷ ms) ≡ true
  retainable_back front n [] e = refl
  retainable_back front n (m ∷ ms) e = small_back front (n ∷ m ∷ ms) e

  -- an end of an end
  above_end : (tag : ℕ) (ns : List Note) → AllByRecursion (λ m. tag < m.previous) ns → AllByRecursion (λ m. tag < m.previous) (longest_retained_end w ns)
  above_end tag [] all = tt
  above_end tag (x ∷ []) all = all
  above_end tag (x ∷ y ∷ xs) all = by (is_within_retention w (x ∷ y ∷ xs)) (above_end tag (y ∷ xs) all.1)
    where
      by : (b : Bool) → AllByRecursion (λ m. tag < m.previous) (longest_retained_end w (y ∷ xs)) → AllByRecursion (λ m. tag < m.previous) (cond b (x ∷ y ∷ xs) (longest_retained_end w (y ∷ xs)))
      by true h = all
      by false h = h

  abbrev whole_or_none : List Note → Option (List Note)
  whole_or_none ns = cond (is_retainable w ns) (Some ns) None

  module _ (tag : ℕ) (n : Note) (ms : List Note) (goes_on : n.previous ≡ tag) (above : AllByRecursion (λ m. tag < m.previous) ms) where
    alone : notes_from tag (longest_retained_end w (n ∷ ms)) ≡ whole_or_none (n ∷ ms)
    alone = by ms goes_on above
      where
        two : (y : Note) (ys : List Note) (b : Bool) → n.previous ≡ tag → AllByRecursion (λ m. tag < m.previous) (y ∷ ys)
            → notes_from tag (cond b (n ∷ y ∷ ys) (longest_retained_end w (y ∷ ys))) ≡ cond b (Some (n ∷ y ∷ ys)) None
        two y ys true same all = from_here tag n (y ∷ ys) same
        two y ys false same all = none_from tag (longest_retained_end w (y ∷ ys)) (above_end tag (y ∷ ys) all)

        by : (l : List Note) → n.previous ≡ tag → AllByRecursion (λ m. tag < m.previous) l → notes_from tag (longest_retained_end w (n ∷ l)) ≡ whole_or_none (n ∷ l)
        by [] same all = from_here tag n [] same
        by (y ∷ ys) same all = two y ys (is_within_retention w (n ∷ y ∷ ys)) same all

    -- what is retained has these records where they may all be retained
    from_retained : (front : List Note) → AllByRecursion (λ m. m.previous < tag) front → notes_from tag (longest_retained_end w (front ++ n ∷ ms)) ≡ whole_or_none (n ∷ ms)
    from_retained [] below = alone
    from_retained (x ∷ []) below = by (is_within_retention w (x ∷ n ∷ ms)) refl
      where
        by : (b : Bool) → is_within_retention w (x ∷ n ∷ ms) ≡ b → notes_from tag (cond b (x ∷ n ∷ ms) (longest_retained_end w (n ∷ ms))) ≡ whole_or_none (n ∷ ms)
        by true e = from_later tag (x ∷ []) (n ∷ ms) below ∙ from_here tag n ms goes_on ∙ sym (ap (λ (b : Bool). cond b (Some (n ∷ ms)) None) (retainable_back (x ∷ []) n ms e))
        by false e = alone
    from_retained (x ∷ y ∷ front) below = by (is_within_retention w (x ∷ y ∷ (front ++ n ∷ ms))) refl (from_retained (y ∷ front) below.1)
      where
        by : (b : Bool) → is_within_retention w (x ∷ y ∷ (front ++ n ∷ ms)) ≡ b → notes_from tag (longest_retained_end w (y ∷ (front ++ n ∷ ms))) ≡ whole_or_none (n ∷ ms)
            → notes_from tag (cond b (x ∷ y ∷ (front ++ n ∷ ms)) (longest_retained_end w (y ∷ (front ++ n ∷ ms)))) ≡ whole_or_none (n ∷ ms)
        by true e h = from_later tag (x ∷ y ∷ front) (n ∷ ms) below ∙ from_here tag n ms goes_on ∙ sym (ap (λ (b : Bool). cond b (Some (n ∷ ms)) None) (retainable_back (x ∷ y ∷ front) n ms e))
        by false e h = h

-- ---- versions, newest first

none_noted : (v : Version) (vs : List Version) → v.note ≡ None → notes_of (v ∷ vs) ≡ notes_of vs
none_noted v vs is = rw is refl

some_noted : (v : Version) (vs : List Version) (n : Note) → v.note ≡ Some n → notes_of (v ∷ vs) ≡ n ∷ notes_of vs
some_noted v vs n is = rw is refl

-- the records of the newest versions, and those of the others
split_notes : (k : ℕ) (vs : List Version) → notes_of vs ≡ notes_of (take k vs) ++ notes_of (drop k vs)
split_notes zero vs = refl
split_notes (suc k) [] = refl
split_notes (suc k) (v ∷ vs) = by v.note refl (split_notes k vs)
  where
    by : (o : Option Note) → v.note ≡ o → notes_of vs ≡ notes_of (take k vs) ++ notes_of (drop k vs) → notes_of (v ∷ vs) ≡ notes_of (take (suc k) (v ∷ vs)) ++ notes_of (drop (suc k) (v ∷ vs))
    by None e h = none_noted v vs e ∙ h ∙ sym (ap (λ (l : List Note). l ++ notes_of (drop k vs)) (none_noted v (take k vs) e))
    by (Some n) e h = some_noted v vs n e ∙ ap (λ (l : List Note). n ∷ l) h ∙ sym (ap (λ (l : List Note). l ++ notes_of (drop k vs)) (some_noted v (take k vs) n e))

pub split_from : (k : ℕ) (vs : List Version) → reverse (notes_of vs) ≡ reverse (notes_of (drop k vs)) ++ notes_after k vs
split_from k vs = ap reverse (split_notes k vs) ∙ reverse-append (notes_of (take k vs)) (notes_of (drop k vs))

one_more : (k : ℕ) (v : Version) (vs : List Version) (n : Note) → v.note ≡ Some n → notes_after (suc k) (v ∷ vs) ≡ notes_after k vs ++ n ∷ []
one_more k v vs n is = ap reverse (some_noted v (take k vs) n is) ∙ reverse-append (n ∷ []) (notes_of (take k vs))

-- there are as many records as later versions
pub counted : (k : ℕ) (v : Version) (ws : List Version) (x : Version) → AreSuccessiveVersions v ws → slice_get (v ∷ ws) k ≡ Some x → length (notes_after k (v ∷ ws)) ≡ k
counted zero v ws x follows is = refl
counted (suc k) v [] x follows is = cc
counted (suc k) v (w ∷ ws) x follows is =
    let one : length (notes_after (suc k) (v ∷ w ∷ ws)) ≡ length (notes_after k (w ∷ ws)) + 1 = ap length (one_more k v (w ∷ ws) follows.0.0 follows.0.1) ∙ length-append (notes_after k (w ∷ ws)) (follows.0.0 ∷ []) in
    omega (arith, one, counted k w ws x follows.2 is)

low_tags : (k n : ℕ) (ws : List Version) → k < n → AllByRecursion (λ w. w.tag < k) ws → AllByRecursion (λ w. w.tag < n) ws
low_tags k n [] lt h = tt
low_tags k n (w ∷ ws) lt h = (omega (arith, h.0, lt), low_tags k n ws lt h.1)

falling : (v : Version) (ws : List Version) → AreSuccessiveVersions v ws → AllByRecursion (λ w. w.tag < v.tag) ws
falling v [] h = tt
falling v (w ∷ ws) h = (h.1, low_tags w.tag v.tag ws h.1 (falling w ws h.2))

tag_at : (n : ℕ) (ws : List Version) (k : ℕ) (x : Version) → AllByRecursion (λ w. w.tag < n) ws → slice_get ws k ≡ Some x → x.tag < n
tag_at n [] k x h is = cc
tag_at n (w ∷ ws) zero x h is = let same : w ≡ x = cc in subst (λ (v : Version). v.tag < n) same h.0
tag_at n (w ∷ ws) (suc k) x h is = tag_at n ws k x h.1 is

-- an earlier version has a smaller tag
pub earlier_tag : (v : Version) (ws : List Version) (k : ℕ) (x : Version) → AreSuccessiveVersions v ws → slice_get (v ∷ ws) (suc k) ≡ Some x → x.tag < v.tag
earlier_tag v ws k x follows is = tag_at v.tag ws k x (falling v ws follows) is

-- ---- the records since a version

record Begins (tag : ℕ) (ns : List Note) : Type 0 where
  first : Note
  later : List Note
  parts : ns ≡ first ∷ later
  goes_on : first.previous ≡ tag
  above : AllByRecursion (λ m. tag < m.previous) later

append_all : (P : Note → Type 0) (ns : List Note) (n : Note) → AllByRecursion P ns → P n → AllByRecursion P (ns ++ n ∷ [])
append_all P [] n all here = (here, tt)
append_all P (m ∷ ns) n all here = (all.0, append_all P ns n all.1 here)

begins : (k : ℕ) (v : Version) (ws : List Version) (x : Version) → AreSuccessiveVersions v ws → slice_get (v ∷ ws) (suc k) ≡ Some x → Begins x.tag (notes_after (suc k) (v ∷ ws))
begins k v [] x follows is = absurd cc
begins zero v (w ∷ ws) x follows is =
    let same : w ≡ x = cc in record {
      first = follows.0.0;
      later = [];
      parts = one_more 0 v (w ∷ ws) follows.0.0 follows.0.1;
      goes_on = ap (λ (n : Note). n.previous) follows.0.4 ∙ ap (λ (y : Version). y.tag) same;
      above = tt;
    }
begins (suc k) v (w ∷ ws) x follows is =
    let r = begins k w ws x follows.2 is in
    let previous : follows.0.0.previous ≡ w.tag = ap (λ (n : Note). n.previous) follows.0.4 in
    let lower : x.tag < w.tag = earlier_tag w ws k x follows.2 is in record {
      first = r.first;
      later = r.later ++ follows.0.0 ∷ [];
      parts = one_more (suc k) v (w ∷ ws) follows.0.0 follows.0.1 ∙ ap (λ (l : List Note). l ++ follows.0.0 ∷ []) r.parts;
      goes_on = r.goes_on;
      above = append_all (λ m. x.tag < m.previous) r.later follows.0.0 r.above (omega (arith, previous, lower));
    }

-- the records before a version continue from smaller tags
reversed_all : (P : Note → Type 0) (ns : List Note) → AllByRecursion P ns → AllByRecursion P (reverse ns)
reversed_all P [] all = tt
reversed_all P (n ∷ ns) all = subst (AllByRecursion P) (sym (reverse-append (n ∷ []) ns)) (append_all P (reverse ns) n (reversed_all P ns all.1) all.0)

low_notes : (k n : ℕ) (ns : List Note) → k < n → AllByRecursion (λ m. m.previous < k) ns → AllByRecursion (λ m. m.previous < n) ns
low_notes k n [] lt all = tt
low_notes k n (m ∷ ns) lt all = (omega (arith, all.0, lt), low_notes k n ns lt all.1)

noted_below : (v : Version) (ws : List Version) → AreSuccessiveVersions v ws → AllByRecursion (λ m. m.previous < v.tag) (notes_of (v ∷ ws))
noted_below v [] follows = subst (AllByRecursion (λ m. m.previous < v.tag)) (sym (none_noted v [] follows)) tt
noted_below v (w ∷ ws) follows =
    let previous : follows.0.0.previous ≡ w.tag = ap (λ (n : Note). n.previous) follows.0.4 in
    subst (AllByRecursion (λ m. m.previous < v.tag)) (sym (some_noted v (w ∷ ws) follows.0.0 follows.0.1)) (omega (arith, previous, follows.1), low_notes w.tag v.tag (notes_of (w ∷ ws)) follows.1 (noted_below w ws follows.2))

earlier_below : (k : ℕ) (v : Version) (ws : List Version) (x : Version) → AreSuccessiveVersions v ws → slice_get (v ∷ ws) k ≡ Some x → AllByRecursion (λ m. m.previous < x.tag) (notes_of (drop k (v ∷ ws)))
earlier_below zero v ws x follows is = let same : v ≡ x = cc in subst (λ (y : Version). AllByRecursion (λ m. m.previous < y.tag) (notes_of (v ∷ ws))) same (noted_below v ws follows)
earlier_below (suc k) v [] x follows is = absurd cc
earlier_below (suc k) v (w ∷ ws) x follows is = earlier_below k w ws x follows.2 is

-- ---- the changes since a version

by_number : (next : ℕ) (d : Document) (number : ℕ) (v : Version) → IsValidHistory next d → slice_get (versions d) number ≡ Some v → stored_changes_since v.tag (Some (stored_document d)) ≡ changes_after_version number d
by_number next d zero v kept is = let same : d.now ≡ v = cc in ap (λ (b : Bool). cond b (ReportedChanges []) (changes_since_of (notes_from v.tag (retained_notes (notes d))))) (eq-eqb d.now.tag v.tag (ap (λ (x : Version). x.tag) same))
by_number next d (suc k) v kept is = by (d.now.tag == v.tag) refl
  where
    r : Begins v.tag (notes_after (suc k) (versions d))
    r = begins k d.now d.earlier v kept.follows is

    whole : notes d ≡ reverse (notes_of (drop (suc k) (versions d))) ++ r.first ∷ r.later
    whole = split_from (suc k) (versions d) ∙ ap (λ (l : List Note). reverse (notes_of (drop (suc k) (versions d))) ++ l) r.parts

    known : notes_from v.tag (retained_notes (notes d)) ≡ whole_or_none weight (notes_after (suc k) (versions d))
    known =
        ap (λ (l : List Note). notes_from v.tag (longest_retained_end weight l)) whole
        ∙ from_retained weight v.tag r.first r.later r.goes_on r.above (reverse (notes_of (drop (suc k) (versions d))))
        (reversed_all (λ m. m.previous < v.tag) (notes_of (drop (suc k) (versions d))) (earlier_below (suc k) d.now d.earlier v kept.follows is))
        ∙ ap (whole_or_none weight) (sym r.parts)

    by_test : (b : Bool) (ns : List Note) → changes_since_of (cond b (Some ns) None) ≡ cond b (ReportedChanges ns) Unknown
    by_test true ns = refl
    by_test false ns = refl

    by : (b : Bool) → d.now.tag == v.tag ≡ b → cond b (ReportedChanges []) (changes_since_of (notes_from v.tag (retained_notes (notes d)))) ≡ changes_after_version (suc k) d
    by true e = absurd (omega (arith, eqb-true d.now.tag v.tag e, earlier_tag d.now d.earlier k v kept.follows is))
    by false e = ap changes_since_of known ∙ by_test (is_retainable weight (notes_after (suc k) (versions d))) (notes_after (suc k) (versions d))

pub known_exactly : (c : StoreContents) (m : State) (id : DocId) (d : Document) (number : ℕ) (v : Version) → IsValidState m → Represents c m → find_document document_id m.documents id ≡ Some d → slice_get (versions d) number ≡ Some v → since c id v.tag ≡ changes_after_version number d
known_exactly c m id d number v kept stands there is =
    let held : find_document stored_id c.documents id ≡ Some (stored_document d) = ap (λ (x : StoreContents). find_document stored_id x.documents id) stands ∙ held_there m.documents id ∙ ap (option_map stored_document) there in
    ap (stored_changes_since v.tag) held ∙ by_number m.next d number v (found_all (IsValidHistory m.next) (λ x. same_id id x.id) m.documents d kept.documents there) is

retainable : (w : Note → ℕ) (ns : List Note) → length ns ≤ 64 → sum_by w ns ≤ 65536 → is_retainable w ns ≡ true
retainable w [] few light = refl
retainable w (x ∷ []) few light = refl
retainable w (x ∷ y ∷ xs) few light = by (length (x ∷ y ∷ xs)) (sum_by w (x ∷ y ∷ xs)) few light
  where
    by : (n s : ℕ) → n ≤ 64 → s ≤ 65536 → (nat_le n 64 && nat_le s 65536) ≡ true
    by n s few light = grind (arith, nat_tests)

pub near_is_known : (c : StoreContents) (m : State) (id : DocId) (d : Document) (number : ℕ) (v : Version) → IsValidState m → Represents c m → find_document document_id m.documents id ≡ Some d → slice_get (versions d) number ≡ Some v
    → number ≤ 64 → sum_by weight (notes_after number (versions d)) ≤ 65536 → since c id v.tag ≡ ReportedChanges (notes_after number (versions d))
near_is_known c m id d number v kept stands there is few light =
    let follows : AreSuccessiveVersions d.now d.earlier = (found_all (IsValidHistory m.next) (λ x. same_id id x.id) m.documents d kept.documents there).follows in
    let ns = notes_after number (versions d) in
    let whole : is_retainable weight ns ≡ true = retainable weight ns (omega (arith, few, counted number d.now d.earlier v follows is)) light in
    known_exactly c m id d number v kept stands there is ∙ ap (λ (b : Bool). cond b (ReportedChanges ns) Unknown) whole
