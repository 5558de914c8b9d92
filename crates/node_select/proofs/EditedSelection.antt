-- Selection after a child was inserted, replaced or removed.
use Rattle.std.proofs.Common.{◌≡◌, ℕ, zero, suc, ◌+◌, ◌<◌, ◌≤◌, ◌⊎◌, inl, inr, ◌↔◌, Bool, true, false, ◌&&◌, ◌||◌, is_some, nat_lt, subst, List, length, take, set, remove, refl, sym, ap, ◌∙◌, Option, Some, None, slice_get, insert, count_by, IsTrue, arith}
use Rattle.std.proofs.lemmas.Bool.{cases_order, cases_lt}
use Rattle.std.proofs.lemmas.Option.{same_Some}
use Rattle.node_select.specs.StepSelection.{StepTests, IsAtPosition, Matches, Selects}
use Rattle.node_select.specs.InsertionPoints.{IsLawfulInsertion}
use Rattle.node_select.specs.Edits.{IsNextMatch, IsPassedOver, number_after_insertion}
use Rattle.node_select.proofs.SelectionAgreement.{position_count, position_from_count}
use Rattle.node_select.proofs.ListEdits.{get-insert_at, count-insert_behind, count_up_to, count_past, count_same, no_more, insert-remove, insert-remove_other, length_removed}
use Rattle.node_select.proofs.GapLaws.{match_before, match_behind, match_behind_free, lawful_from, lawful_named, lawful_tested, lawful_position, lawful_free}

-- ---- the number of a child afterwards
not_lt : (i gap : ℕ) → gap ≤ i → nat_lt i gap ≡ false
not_lt i gap le = grind arith

lt_true : (i gap : ℕ) → i < gap → nat_lt i gap ≡ true
lt_true i gap lt = grind arith

shifted_before : (gap i : ℕ) → i < gap → number_after_insertion gap i ≡ i
shifted_before gap i lt = rw (lt_true i gap lt) refl

shifted_behind : (gap i : ℕ) → gap ≤ i → number_after_insertion gap i ≡ suc i
shifted_behind gap i le = rw (not_lt i gap le) refl

-- ---- a child that the step passes over
not_new_at : {A : Type 0} (step : StepTests A) (e child_element : A) → child_element ≡ e → IsPassedOver step e → IsTrue (step.named child_element) → IsTrue (step.tested child_element) → ⊥
not_new_at step e child_element same over n t = both (step.named e) (is_some step.position) (step.tested e) (ap step.named (sym same) ∙ n) (ap step.tested (sym same) ∙ t) over
  where
    both : (a p b : Bool) → a ≡ true → b ≡ true → (a && (p || b)) ≡ false → ⊥
    both a true b n t h = cc
    both a false b n t h = cc

-- with a position the step passes over a child because of its name
not_counted : (a b : Bool) (o : Option ℕ) (p : ℕ) → o ≡ Some p → (a && (is_some o || b)) ≡ false → a ≡ false
not_counted false b o p is h = refl
not_counted true b None p is h = cc
not_counted true b (Some n) p is h = h

pub not_new : {A : Type 0} (step : StepTests A) (xs : List A) (gap : ℕ) (e : A) → gap ≤ length xs → IsPassedOver step e → Matches step (insert xs gap e) gap → ⊥
not_new step xs gap e le over m = not_new_at step e m.child_element (same_Some _ _ (sym m.there ∙ get-insert_at xs gap e le)) over m.is_named m.is_tested

behind : {A : Type 0} (step : StepTests A) (xs : List A) (gap : ℕ) (e : A) (i : ℕ) → gap ≤ length xs → gap ≤ i → IsPassedOver step e → Matches step (insert xs gap e) (suc i) ↔ Matches step xs i
behind step xs gap e i le from over = by step.position refl
  where
    by : (o : Option ℕ) → step.position ≡ o → Matches step (insert xs gap e) (suc i) ↔ Matches step xs i
    by None is = match_behind_free step xs gap e i is le from
    by (Some p) is =
        let uncounted = not_counted (step.named e) (step.tested e) step.position p is over in
        let same : count_by step.named (take (suc i) (insert xs gap e)) ≡ count_by step.named (take i xs) = omega (arith, count-insert_behind step.named xs gap e i le from, no_more step.named e uncounted) in
        match_behind step xs gap e i le from (λ h. subst (λ k. IsAtPosition step.position k) same h, λ h. subst (λ k. IsAtPosition step.position k) (sym same) h)

pub match_shifted : {A : Type 0} (step : StepTests A) (xs : List A) (gap : ℕ) (e : A) (i : ℕ) → gap ≤ length xs → IsPassedOver step e → Matches step (insert xs gap e) (number_after_insertion gap i) ↔ Matches step xs i
match_shifted step xs gap e i le over = by (cases_lt i gap)
  where
    by : (i < gap) ⊎ (gap ≤ i) → Matches step (insert xs gap e) (number_after_insertion gap i) ↔ Matches step xs i
    by (inl lt) = rw (shifted_before gap i lt) (match_before step xs gap e i le lt)
    by (inr from) = rw (shifted_behind gap i from) (behind step xs gap e i le from over)

one_to_one : (gap i k : ℕ) → number_after_insertion gap k ≡ number_after_insertion gap i → k ≡ i
one_to_one gap i k h = by (cases_lt i gap) (cases_lt k gap)
  where
    by : (i < gap) ⊎ (gap ≤ i) → (k < gap) ⊎ (gap ≤ k) → k ≡ i
    by (inl a) (inl b) = sym (shifted_before gap k b) ∙ h ∙ shifted_before gap i a
    by (inl a) (inr b) = let e = sym (shifted_behind gap k b) ∙ h ∙ shifted_before gap i a in absurd (omega arith)
    by (inr a) (inl b) = let e = sym (shifted_before gap k b) ∙ h ∙ shifted_behind gap i a in absurd (omega arith)
    by (inr a) (inr b) = let e = sym (shifted_behind gap k b) ∙ h ∙ shifted_behind gap i a in omega arith

from_before : (gap k : ℕ) → k < gap → (i : ℕ) × (k ≡ number_after_insertion gap i)
from_before gap k lt = (k, sym (shifted_before gap k lt))

from_behind : (gap k : ℕ) → gap < k → (i : ℕ) × (k ≡ number_after_insertion gap i)
from_behind gap zero lt = absurd (omega arith)
from_behind gap (suc k) lt = (k, sym (shifted_behind gap k (omega arith)))

pub select_shifted : {A : Type 0} (step : StepTests A) (xs : List A) (gap : ℕ) (e : A) (i : ℕ) → gap ≤ length xs → IsPassedOver step e → Selects step (insert xs gap e) (number_after_insertion gap i) ↔ Selects step xs i
select_shifted step xs gap e i le over = (
  λ s. record {
    this = (match_shifted step xs gap e i le over).0 s.this;
    alone = λ k m. one_to_one gap i k (s.alone (number_after_insertion gap k) ((match_shifted step xs gap e k le over).1 m));
  },
  λ s. record {
    this = (match_shifted step xs gap e i le over).1 s.this;
    alone = λ k m. by s k m (cases_order k gap);
  },
)
  where
    came_from : Selects step xs i → (k : ℕ) → Matches step (insert xs gap e) k → (j : ℕ) × (k ≡ number_after_insertion gap j) → k ≡ number_after_insertion gap i
    came_from s k m (j, same) =
        let n : Matches step (insert xs gap e) (number_after_insertion gap j) = subst (λ z. Matches step (insert xs gap e) z) same m in
        same ∙ ap (number_after_insertion gap) (s.alone j ((match_shifted step xs gap e j le over).0 n))

    by : Selects step xs i → (k : ℕ) → Matches step (insert xs gap e) k → (k ≡ gap) ⊎ ((k < gap) ⊎ (gap < k)) → k ≡ number_after_insertion gap i
    by s k m (inl same) = absurd (not_new step xs gap e le over (subst (λ z. Matches step (insert xs gap e) z) same m))
    by s k m (inr (inl lt)) = came_from s k m (from_before gap k lt)
    by s k m (inr (inr lt)) = came_from s k m (from_behind gap k lt)

-- ---- a child that the step passes over is removed
pub select_remove_over : {A : Type 0} (step : StepTests A) (child_elements : List A) (j : ℕ) (x : A) (i : ℕ) → slice_get child_elements j ≡ Some x → IsPassedOver step x → Selects step child_elements (number_after_insertion j i) ↔ Selects step (remove child_elements j) i
select_remove_over step child_elements j x i there over =
    subst (λ l. Selects step l (number_after_insertion j i) ↔ Selects step (remove child_elements j) i) (insert-remove child_elements j x there)
    (select_shifted step (remove child_elements j) j x i (length_removed child_elements j x there) over)

-- ---- the selected child removed
was_lawful : {A : Type 0} (step : StepTests A) (child_elements : List A) (j : ℕ) → (s : Selects step child_elements j) → IsLawfulInsertion step (remove child_elements j) s.this.child_element j
was_lawful step child_elements j s = subst (λ l. Selects step l j) (sym (insert-remove child_elements j s.this.child_element s.this.there)) s

-- without a position none matches then
pub removed_none : {A : Type 0} (step : StepTests A) (child_elements : List A) (j i : ℕ) → step.position ≡ None → Selects step child_elements j → Matches step (remove child_elements j) i → ⊥
removed_none step child_elements j i none s m = lawful_free step (remove child_elements j) s.this.child_element j (length_removed child_elements j s.this.child_element s.this.there) (was_lawful step child_elements j s) none i m

-- with one the next that passes the name test moves up
pub removed_next : {A : Type 0} (step : StepTests A) (n : ℕ) (child_elements : List A) (j i : ℕ) → step.position ≡ Some n → Selects step child_elements j → Matches step (remove child_elements j) i ↔ IsNextMatch step (remove child_elements j) j i
removed_next {A = A} step n child_elements j i is s = (
  λ m. by m (cases_lt i j),
  λ m. record {
    child_element = m.child_element;
    there = m.there;
    is_named = m.is_named;
    at_position = position_from_count step.position n (count_by step.named (take i (remove child_elements j))) is (omega (arith, was, count_same step.named (remove child_elements j) j i m.not_before m.first));
    is_tested = m.is_tested;
  },
)
  where
    was : count_by step.named (take j (remove child_elements j)) + 1 ≡ n
    was =
        position_count step.position n (count_by step.named (take j (remove child_elements j))) is
        (lawful_position step (remove child_elements j) s.this.child_element j (length_removed child_elements j s.this.child_element s.this.there) (was_lawful step child_elements j s))

    clear : (m : Matches step (remove child_elements j) i) → (k : ℕ) (other : A) → j ≤ k → k < i → slice_get (remove child_elements j) k ≡ Some other → (b : Bool) → step.named other ≡ b → step.named other ≡ false
    clear m k other from lt there true e =
        let at = position_count step.position n (count_by step.named (take i (remove child_elements j))) is m.at_position in
        let fewer = count_up_to step.named (remove child_elements j) j k from in
        let more = count_past step.named (remove child_elements j) k i other there e lt in
        absurd (omega (arith, was))
    clear m k other from lt there false e = e

    by : Matches step (remove child_elements j) i → (i < j) ⊎ (j ≤ i) → IsNextMatch step (remove child_elements j) j i
    by m (inl lt) =
        let at = position_count step.position n (count_by step.named (take i (remove child_elements j))) is m.at_position in
        let more = count_past step.named (remove child_elements j) i j m.child_element m.there m.is_named lt in
        absurd (omega (arith, was))
    by m (inr from) = record {
      child_element = m.child_element;
      there = m.there;
      not_before = from;
      is_named = m.is_named;
      first = λ k other low lt there. clear m k other low lt there (step.named other) refl;
      is_tested = m.is_tested;
    }

-- ---- the selected child replaced
pub replaced : {A : Type 0} (step : StepTests A) (child_elements : List A) (j : ℕ) (new : A) → Selects step child_elements j → Selects step (set child_elements j new) j ↔ (IsTrue (step.named new) × IsTrue (step.tested new))
replaced step child_elements j new s =
    let rest = remove child_elements j in
    let le = length_removed child_elements j s.this.child_element s.this.there in
    let l = was_lawful step child_elements j s in
    subst (λ z. Selects step z j ↔ (IsTrue (step.named new) × IsTrue (step.tested new))) (insert-remove_other child_elements j s.this.child_element new s.this.there) (
      λ r. (lawful_named step rest new j le r, lawful_tested step rest new j le r),
      λ h. lawful_from step rest new j le h.0 h.1 (lawful_position step rest s.this.child_element j le l) (lawful_free step rest s.this.child_element j le l),
    )
