-- What an edit among the children does to the numbers and matches of the other children.
use Rattle.std.specs.Prelude.{◌≡◌, ℕ, suc, ◌<◌, ◌≤◌, nat_lt, false, cond, ◌&&◌, ◌||◌, IsTrue}
use Rattle.std.specs.Prelude.{List, slice_get, Some, is_some}
use Rattle.node_select.specs.StepSelection.{StepTests}

-- the number of a child after another was inserted into the gap
abbrev pub number_after_insertion : ℕ → ℕ → ℕ
number_after_insertion gap i = cond (nat_lt i gap) i (suc i)

-- a child that the step passes over and doesn't count: it fails the name test or, where there is
-- no position to count for, the attribute test
abbrev pub IsPassedOver : {A : Type 0} → StepTests A → A → Type 0
IsPassedOver step child_element =
    (step.named child_element && (is_some step.position || step.tested child_element)) ≡ false

-- from this number on, the i-th child is the first that passes the name test, and it passes the
-- attribute test too
pub record IsNextMatch {A : Type 0} (step : StepTests A) (child_elements : List A)
    (from i : ℕ) : Type 0 where
  pub child_element : A
  pub there : slice_get child_elements i ≡ Some child_element
  pub not_before : from ≤ i
  pub is_named : IsTrue (step.named child_element)
  pub first : (k : ℕ) (other : A) → from ≤ k → k < i → slice_get child_elements k ≡ Some other
      → step.named other ≡ false
  pub is_tested : IsTrue (step.tested child_element)
