-- Which child of an element a step of a node selector selects (RFC 4825, section 6.3), for
-- children of any type.
use Rattle.std.specs.Prelude.{◌≡◌, ℕ, zero, suc, ◌+◌, Bool, true, false, cond, ◌&&◌, nat_eq, IsTrue}
use Rattle.std.specs.Prelude.{List, [], ◌∷◌, length, map, take, count_by, slice_get, Option, None}
use Rattle.std.specs.Prelude.{Some}

-- the tests of a step: of a child's name, of its position, if the step has one, and of its
-- attributes; a step without a name or an attribute to test passes every child there
pub record StepTests (A : Type 0) : Type 0 where
  pub named : A → Bool
  pub position : Option ℕ
  pub tested : A → Bool

-- where there is a position n, the child is the n-th of the children that pass the name test, by
-- the number of these before it
abbrev pub IsAtPosition : Option ℕ → ℕ → Type 0
IsAtPosition None before = Unit {0}
IsAtPosition (Some n) before = before + 1 ≡ n

-- the i-th child passes the name test, is at the position among the children that pass it, and
-- passes the attribute test
pub record Matches {A : Type 0} (step : StepTests A) (child_elements : List A)
    (i : ℕ) : Type 0 where
  pub child_element : A
  pub there : slice_get child_elements i ≡ Some child_element
  pub is_named : IsTrue (step.named child_element)
  pub at_position : IsAtPosition step.position (count_by step.named (take i child_elements))
  pub is_tested : IsTrue (step.tested child_element)

-- the i-th child matches, and no other child does
pub record Selects {A : Type 0} (step : StepTests A) (child_elements : List A)
    (i : ℕ) : Type 0 where
  pub this : Matches step child_elements i
  pub alone : (k : ℕ) → Matches step child_elements k → k ≡ i

-- two steps have the same position, and their tests give two lists of children the same results,
-- one by one
pub record HaveSameTestResults {A B : Type 0} (step : StepTests A) (step' : StepTests B)
    (child_elements : List A) (child_elements' : List B) : Type 0 where
  pub same_position : step.position ≡ step'.position
  pub same_named : map step.named child_elements ≡ map step'.named child_elements'
  pub same_tested : map step.tested child_elements ≡ map step'.tested child_elements'

-- ---- selection, computed

-- whether a child with this many matching names before it is at the position
abbrev pub is_at_position : Option ℕ → ℕ → Bool
is_at_position None before = true
is_at_position (Some n) before = nat_eq (before + 1) n

-- whether the child, if it exists, matches with this many children before it that pass the name
-- test
abbrev pub child_matches : {A : Type 0} → StepTests A → ℕ → Option A → Bool
child_matches step before None = false
child_matches step before (Some child_element) =
    step.named child_element
    && (is_at_position step.position before && step.tested child_element)

-- whether the i-th child matches
abbrev pub matches : {A : Type 0} → StepTests A → List A → ℕ → Bool
matches step child_elements i =
    child_matches step (count_by step.named (take i child_elements)) (slice_get child_elements i)

-- the numbers that pass, of a range from the first one on
abbrev pub passing_numbers : (ℕ → Bool) → ℕ → ℕ → List ℕ
passing_numbers p first zero = []
passing_numbers p first (suc many) =
    cond (p first) (first ∷ passing_numbers p (suc first) many) (passing_numbers p (suc first) many)

-- the only item of a list
abbrev pub only_item : List ℕ → Option ℕ
only_item [] = None
only_item (i ∷ []) = Some i
only_item (i ∷ j ∷ more) = None

-- the number of the only child that matches
abbrev pub selected_number : {A : Type 0} → StepTests A → List A → Option ℕ
selected_number step child_elements =
    only_item (passing_numbers (matches step child_elements) 0 (length child_elements))
