-- Where a new child may be inserted so that the step selects exactly it (RFC 4825, section
-- 8.2.3). Gap j is before the j-th child, and the last gap after all children. Which of the
-- lawful gaps is taken is this server's choice: the last one at which the result is valid.
use Rattle.std.specs.Prelude.{◌≡◌, ◌⊎◌, ℕ, zero, suc, ◌<◌, ◌≤◌, Bool, true, false, List, insert}
use Rattle.std.specs.Prelude.{None, Result, Ok, Err}
use Rattle.node_select.specs.StepSelection.{StepTests, Matches, Selects}

-- after the new child is inserted into the gap, the step selects exactly it
abbrev pub IsLawfulInsertion : {A : Type 0} → StepTests A → List A → A → ℕ → Type 0
IsLawfulInsertion step child_elements new gap = Selects step (insert child_elements gap new) gap

-- no child keeps the new one from being selected, whichever gap it is inserted into: without a
-- position no child matches yet
abbrev pub AllowsInsertion : {A : Type 0} → StepTests A → List A → Type 0
AllowsInsertion step child_elements =
    step.position ≡ None → (k : ℕ) → Matches step child_elements k → ⊥

-- of `gaps` gaps, the last that is lawful and valid
pub record IsLastValidGap (lawful valid : ℕ → Type 0) (gaps gap : ℕ) : Type 0 where
  pub within : gap < gaps
  pub is_lawful : lawful gap
  pub is_valid : valid gap
  pub last : (k : ℕ) → k < gaps → lawful k → valid k → k ≤ gap

-- of `gaps` gaps none is lawful
pub record HasNoLawfulGap (lawful : ℕ → Type 0) (gaps : ℕ) : Type 0 where
  pub none : (k : ℕ) → k < gaps → lawful k → ⊥

-- of `gaps` gaps some are lawful, and none of these is valid
pub record HasNoValidGap (lawful valid : ℕ → Type 0) (gaps : ℕ) : Type 0 where
  pub some_gap : ℕ
  pub within : some_gap < gaps
  pub is_lawful : lawful some_gap
  pub none : (k : ℕ) → k < gaps → lawful k → valid k → ⊥

-- the plan over `gaps` gaps, all of which are tried: the last lawful and valid one; the first
-- refusal where none is lawful, the second where none of the lawful ones is valid
abbrev pub IsInsertionPlan : {E : Type 0} → E → E → (ℕ → Type 0) → (ℕ → Type 0) → ℕ → Result ℕ E
    → Type 0
IsInsertionPlan unlawful invalid lawful valid gaps (Ok gap) = IsLastValidGap lawful valid gaps gap
IsInsertionPlan unlawful invalid lawful valid gaps (Err e) =
    ((e ≡ unlawful) × HasNoLawfulGap lawful gaps)
    ⊎ ((e ≡ invalid) × HasNoValidGap lawful valid gaps)

-- ---- the computed plan, where both properties are tests

-- the plan where no gap is tried
abbrev pub no_plan : {E : Type 0} → E → Result ℕ E
no_plan unlawful = Err unlawful

-- the plan where the gap is lawful and not valid
abbrev pub plan_with_invalid_gap : {E : Type 0} → E → Result ℕ E → Result ℕ E
plan_with_invalid_gap invalid (Ok gap) = Ok gap
plan_with_invalid_gap invalid (Err e) = Err invalid

-- the plan with one more gap
abbrev pub plan_with_gap : {E : Type 0} → E → Result ℕ E → ℕ → Bool → Bool → Result ℕ E
plan_with_gap invalid plan gap false valid = plan
plan_with_gap invalid plan gap true false = plan_with_invalid_gap invalid plan
plan_with_gap invalid plan gap true true = Ok gap

-- the plan over `gaps` gaps
abbrev pub insertion_plan : {E : Type 0} → E → E → (ℕ → Bool) → (ℕ → Bool) → ℕ → Result ℕ E
insertion_plan unlawful invalid lawful valid zero = no_plan unlawful
insertion_plan unlawful invalid lawful valid (suc gaps) =
    plan_with_gap invalid (insertion_plan unlawful invalid lawful valid gaps) gaps (lawful gaps)
    (valid gaps)
