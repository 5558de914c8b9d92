-- One pass over the children that keeps the number of those that passed the name test, and the
-- only match so far.
use Rattle.std.proofs.Common.{◌≡◌, ℕ, ◌+◌, ◌<◌, inl, inr, ◌↔◌, true, false, Option, Some, None, ap, arith, is_some, List, length, subst}
use Rattle.std.proofs.lemmas.Bool.{cases_lt}
use Rattle.std.proofs.lemmas.Option.{same_Some, none-some, slice_get_within}
use Rattle.node_select.specs.StepSelection.{StepTests, Matches, Selects, selected_number}
use Rattle.node_select.proofs.SelectionAgreement.{answer_is}

-- below n no number has the property, or this one alone
abbrev pub OnlyBelow : (ℕ → Type 0) → ℕ → Option ℕ → Type 0
OnlyBelow P n None = (k : ℕ) → k < n → P k → ⊥
OnlyBelow P n (Some i) = (i < n) × P i × ((k : ℕ) → k < n → P k → k ≡ i)

-- the next number doesn't have it
pub only_more : (P : ℕ → Type 0) (n : ℕ) (found : Option ℕ) → OnlyBelow P n found → (P n → ⊥) → OnlyBelow P (n + 1) found
only_more P n None h here = λ k lt p. elim (cases_lt k n) [ inl below ↦ h k below p | inr le ↦ here (let same : k ≡ n = omega arith in subst P same p) ]
only_more P n (Some i) h here = (omega arith, h.1, λ k lt p. elim (cases_lt k n) [ inl below ↦ h.2 k below p | inr le ↦ absurd (here (let same : k ≡ n = omega arith in subst P same p)) ])

-- the next number is the first that has it
pub only_first : (P : ℕ → Type 0) (n : ℕ) (found : Option ℕ) → is_some found ≡ false → OnlyBelow P n found → P n → OnlyBelow P (n + 1) (Some n)
only_first P n None none h here = (omega arith, here, λ k lt p. elim (cases_lt k n) [ inl below ↦ absurd (h k below p) | inr le ↦ omega arith ])
only_first P n (Some f) none h here = cc

-- at the end the only number is the selected one
pub only_is_selected : {A : Type 0} (step : StepTests A) (child_elements : List A) (n : ℕ) (found : Option ℕ) → n ≡ length child_elements → OnlyBelow (Matches step child_elements) n found → found ≡ selected_number step child_elements
only_is_selected step child_elements n found end only = answer_is step child_elements found (by found only)
  where
    by : (o : Option ℕ) → OnlyBelow (Matches step child_elements) n o → (i : ℕ) → (o ≡ Some i) ↔ Selects step child_elements i
    by None h i = (λ e. absurd (none-some i e), λ s. absurd (h i (let lt = slice_get_within child_elements i s.this.child_element s.this.there in omega arith) s.this))
    by (Some f) h i = (
      λ e. subst (λ (z : ℕ). Selects step child_elements z) (same_Some f i e) (record { this = h.1; alone = λ k m. h.2 k (let lt = slice_get_within child_elements k m.child_element m.there in omega arith) m }),
      λ s. ap (λ (z : ℕ). Some z) (s.alone f h.1),
    )

-- where a second number matches, none is selected
pub second_is_none : {A : Type 0} (step : StepTests A) (child_elements : List A) (n : ℕ) (found : Option ℕ) → is_some found ≡ true → OnlyBelow (Matches step child_elements) n found → Matches step child_elements n → None ≡ selected_number step child_elements
second_is_none step child_elements n None some only m = cc
second_is_none step child_elements n (Some f) some only m = answer_is step child_elements None (λ i. (
  λ e. absurd (none-some i e),
  λ s. let a = s.alone f only.1 in let b = s.alone n m in let lt = only.0 in absurd (omega arith),
))
