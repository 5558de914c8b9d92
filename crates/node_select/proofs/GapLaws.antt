-- The gaps at which a step then selects a new child, by the children before the insertion.
use Rattle.std.proofs.Common.{◌≡◌, ℕ, zero, suc, ◌<◌, ◌≤◌, ◌⊎◌, inl, inr, ◌↔◌, Bool, subst, List, length, take, sym, ap, ◌∙◌, Option, Some, None, insert, count_by, IsTrue, refl, arith}
use Rattle.std.proofs.lemmas.Bool.{cases_order, cases_lt}
use Rattle.std.proofs.lemmas.Option.{same_Some}
use Rattle.node_select.specs.StepSelection.{StepTests, IsAtPosition, Matches}
use Rattle.node_select.specs.InsertionPoints.{AllowsInsertion, IsLawfulInsertion}
use Rattle.node_select.proofs.SelectionAgreement.{any_position, position_count}
use Rattle.node_select.proofs.ListEdits.{get-insert_before, get-insert_at, get-insert_behind, take-insert_before, count-insert_behind, count_up_to, count_past, one_more}

-- a child before the gap matches as before
pub match_before : {A : Type 0} (step : StepTests A) (xs : List A) (gap : ℕ) (e : A) (i : ℕ) → gap ≤ length xs → i < gap → Matches step (insert xs gap e) i ↔ Matches step xs i
match_before step xs gap e i le lt = (
  λ m. record {
    child_element = m.child_element;
    there = sym (get-insert_before xs gap e i le lt) ∙ m.there;
    is_named = m.is_named;
    at_position = rw (take-insert_before xs gap e i le (omega arith)) at m.at_position;
    is_tested = m.is_tested;
  },
  λ m. record {
    child_element = m.child_element;
    there = get-insert_before xs gap e i le lt ∙ m.there;
    is_named = m.is_named;
    at_position = rw (take-insert_before xs gap e i le (omega arith)) m.at_position;
    is_tested = m.is_tested;
  },
)

-- a child after the gap matches as before, where the new one doesn't change its count
pub match_behind : {A : Type 0} (step : StepTests A) (xs : List A) (gap : ℕ) (e : A) (i : ℕ) → gap ≤ length xs → gap ≤ i
    → (IsAtPosition step.position (count_by step.named (take (suc i) (insert xs gap e))) ↔ IsAtPosition step.position (count_by step.named (take i xs)))
    → Matches step (insert xs gap e) (suc i) ↔ Matches step xs i
match_behind step xs gap e i le from counts = (
  λ m. record {
    child_element = m.child_element;
    there = sym (get-insert_behind xs gap e i le from) ∙ m.there;
    is_named = m.is_named;
    at_position = counts.0 m.at_position;
    is_tested = m.is_tested;
  },
  λ m. record {
    child_element = m.child_element;
    there = get-insert_behind xs gap e i le from ∙ m.there;
    is_named = m.is_named;
    at_position = counts.1 m.at_position;
    is_tested = m.is_tested;
  },
)

-- without a position no count matters
pub match_behind_free : {A : Type 0} (step : StepTests A) (xs : List A) (gap : ℕ) (e : A) (i : ℕ) → step.position ≡ None → gap ≤ length xs → gap ≤ i → Matches step (insert xs gap e) (suc i) ↔ Matches step xs i
match_behind_free step xs gap e i none le from = match_behind step xs gap e i le from (λ _. any_position step.position _ none, λ _. any_position step.position _ none)

-- the new child matches where it passes both tests and the number before the gap fits
pub match_new : {A : Type 0} (step : StepTests A) (xs : List A) (gap : ℕ) (e : A) → gap ≤ length xs → IsTrue (step.named e) → IsTrue (step.tested e) → IsAtPosition step.position (count_by step.named (take gap xs)) → Matches step (insert xs gap e) gap
match_new step xs gap e le n t counted = record {
  child_element = e;
  there = get-insert_at xs gap e le;
  is_named = n;
  at_position = rw (take-insert_before xs gap e gap le (omega arith)) counted;
  is_tested = t;
}

-- then no other child matches, if none is in its way
module _ {A : Type 0} (step : StepTests A) (xs : List A) (gap : ℕ) (e : A) (le : gap ≤ length xs) (n : IsTrue (step.named e)) (counted : IsAtPosition step.position (count_by step.named (take gap xs))) (free : AllowsInsertion step xs) where
  none_before : (i : ℕ) → Matches step (insert xs gap e) i → i < gap → (o : Option ℕ) → step.position ≡ o → ⊥
  none_before i m lt None is = free is i ((match_before step xs gap e i le lt).0 m)
  none_before i m lt (Some p) is =
      let o = (match_before step xs gap e i le lt).0 m in
      let more = count_past step.named xs i gap o.child_element o.there o.is_named lt in
      let at = position_count step.position p (count_by step.named (take i xs)) is o.at_position in
      let new = position_count step.position p (count_by step.named (take gap xs)) is counted in
      omega arith

  none_behind : (i : ℕ) → Matches step (insert xs gap e) (suc i) → gap ≤ i → (o : Option ℕ) → step.position ≡ o → ⊥
  none_behind i m from None is = free is i ((match_behind_free step xs gap e i is le from).0 m)
  none_behind i m from (Some p) is =
      let one = one_more step.named e n in
      let more = count-insert_behind step.named xs gap e i le from in
      let no_fewer = count_up_to step.named xs gap i from in
      let at = position_count step.position p (count_by step.named (take (suc i) (insert xs gap e))) is m.at_position in
      let new = position_count step.position p (count_by step.named (take gap xs)) is counted in
      omega arith

  alone : (i : ℕ) → Matches step (insert xs gap e) i → (i ≡ gap) ⊎ ((i < gap) ⊎ (gap < i)) → i ≡ gap
  alone i m (inl same) = same
  alone i m (inr (inl lt)) = absurd (none_before i m lt step.position refl)
  alone zero m (inr (inr lt)) = absurd (omega arith)
  alone (suc i) m (inr (inr lt)) = absurd (none_behind i m (omega arith) step.position refl)

pub lawful_from : {A : Type 0} (step : StepTests A) (xs : List A) (e : A) (gap : ℕ) → gap ≤ length xs → IsTrue (step.named e) → IsTrue (step.tested e) → IsAtPosition step.position (count_by step.named (take gap xs)) → AllowsInsertion step xs → IsLawfulInsertion step xs e gap
lawful_from step xs e gap le n t counted free = record {
  this = match_new step xs gap e le n t counted;
  alone = λ i m. alone step xs gap e le n counted free i m (cases_order i gap);
}

new_kid : {A : Type 0} (step : StepTests A) (xs : List A) (e : A) (gap : ℕ) → gap ≤ length xs → (l : IsLawfulInsertion step xs e gap) → l.this.child_element ≡ e
new_kid step xs e gap le l = same_Some _ _ (sym l.this.there ∙ get-insert_at xs gap e le)

pub lawful_named : {A : Type 0} (step : StepTests A) (xs : List A) (e : A) (gap : ℕ) → gap ≤ length xs → IsLawfulInsertion step xs e gap → IsTrue (step.named e)
lawful_named step xs e gap le l = ap step.named (sym (new_kid step xs e gap le l)) ∙ l.this.is_named

pub lawful_tested : {A : Type 0} (step : StepTests A) (xs : List A) (e : A) (gap : ℕ) → gap ≤ length xs → IsLawfulInsertion step xs e gap → IsTrue (step.tested e)
lawful_tested step xs e gap le l = ap step.tested (sym (new_kid step xs e gap le l)) ∙ l.this.is_tested

pub lawful_position : {A : Type 0} (step : StepTests A) (xs : List A) (e : A) (gap : ℕ) → gap ≤ length xs → IsLawfulInsertion step xs e gap → IsAtPosition step.position (count_by step.named (take gap xs))
lawful_position step xs e gap le l = rw (take-insert_before xs gap e gap le (omega arith)) at l.this.at_position

in_the_way : {A : Type 0} (step : StepTests A) (xs : List A) (e : A) (gap : ℕ) → step.position ≡ None → gap ≤ length xs → IsLawfulInsertion step xs e gap → (i : ℕ) → Matches step xs i → (i < gap) ⊎ (gap ≤ i) → ⊥
in_the_way step xs e gap none le l i m (inl lt) = let same = l.alone i ((match_before step xs gap e i le lt).1 m) in omega arith
in_the_way step xs e gap none le l i m (inr from) = let same = l.alone (suc i) ((match_behind_free step xs gap e i none le from).1 m) in omega arith

pub lawful_free : {A : Type 0} (step : StepTests A) (xs : List A) (e : A) (gap : ℕ) → gap ≤ length xs → IsLawfulInsertion step xs e gap → AllowsInsertion step xs
lawful_free step xs e gap le l = λ none i m. in_the_way step xs e gap none le l i m (cases_lt i gap)

-- a gap is lawful exactly when the new child passes both tests, the number before the gap fits,
-- and nothing is in the way
pub lawful_is : {A : Type 0} (step : StepTests A) (xs : List A) (e : A) (gap : ℕ) → gap ≤ length xs
    → IsLawfulInsertion step xs e gap ↔ (IsTrue (step.named e) × IsTrue (step.tested e) × IsAtPosition step.position (count_by step.named (take gap xs)) × AllowsInsertion step xs)
lawful_is step xs e gap le = (
  λ l. (lawful_named step xs e gap le l, lawful_tested step xs e gap le l, lawful_position step xs e gap le l, lawful_free step xs e gap le l),
  λ h. lawful_from step xs e gap le h.0 h.1 h.2 h.3,
)

-- where only the number before the gap is still open
pub lawful_by_count : {A : Type 0} (step : StepTests A) (xs : List A) (e : A) (gap before : ℕ) → gap ≤ length xs → IsTrue (step.named e) → IsTrue (step.tested e) → AllowsInsertion step xs → before ≡ count_by step.named (take gap xs) → IsAtPosition step.position before ↔ IsLawfulInsertion step xs e gap
lawful_by_count step xs e gap before le n t free same = (
  λ h. lawful_from step xs e gap le n t (subst (λ k. IsAtPosition step.position k) same h) free,
  λ l. subst (λ k. IsAtPosition step.position k) (sym same) (lawful_position step xs e gap le l),
)

between : {A : Type 0} (named : A → Bool) (position : Option ℕ) (xs : List A) (i j k : ℕ) → i ≤ j → j ≤ k → IsAtPosition position (count_by named (take i xs)) → IsAtPosition position (count_by named (take k xs)) → IsAtPosition position (count_by named (take j xs))
between named None xs i j k low high first last = tt
between named (Some n) xs i j k low high first last = omega (arith, count_up_to named xs i j low, count_up_to named xs j k high)

-- the lawful gaps are an interval
pub lawful_between : {A : Type 0} (step : StepTests A) (xs : List A) (e : A) (i j k : ℕ) → k ≤ length xs → i ≤ j → j ≤ k → IsLawfulInsertion step xs e i → IsLawfulInsertion step xs e k → IsLawfulInsertion step xs e j
lawful_between step xs e i j k le low high first last =
    lawful_from step xs e j (omega arith) (lawful_named step xs e k le last) (lawful_tested step xs e k le last)
    (between step.named step.position xs i j k low high (lawful_position step xs e i (omega arith) first) (lawful_position step xs e k le last))
    (lawful_free step xs e k le last)

-- without a position one gap is as lawful as another
pub lawful_anywhere : {A : Type 0} (step : StepTests A) (xs : List A) (e : A) (i j : ℕ) → step.position ≡ None → i ≤ length xs → j ≤ length xs → IsLawfulInsertion step xs e i → IsLawfulInsertion step xs e j
lawful_anywhere step xs e i j none le le' l =
    lawful_from step xs e j le' (lawful_named step xs e i le l) (lawful_tested step xs e i le l) (any_position step.position _ none) (lawful_free step xs e i le l)
