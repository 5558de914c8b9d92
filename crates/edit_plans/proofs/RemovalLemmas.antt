-- The next match after a removed child, and its neighbours.
use Rattle.std.proofs.Common.{◌≡◌, ◌↔◌, ◌⊎◌, inl, inr, ℕ, zero, suc, ◌+◌, ◌<◌, ◌≤◌, Bool, true, false, List, length, remove, Option, Some, None, slice_get, IsTrue, refl, sym, ap, ◌∙◌, subst, arith}
use Rattle.std.proofs.lemmas.Bool.{cases_lt, cases_order}
use Rattle.std.proofs.lemmas.Option.{same_Some, slice_get_within}
use Rattle.std.specs.Option.{ForSome}
use Rattle.node_select.specs.Edits.{IsNextMatch}
use Rattle.node_select.specs.StepSelection.{StepTests, Matches}
use Rattle.node_select.proofs.EditedSelection.{removed_none, removed_next}
use Rattle.xml_tree.specs.Tree.{Content, Tree, child_elements}
use Rattle.node_select.specs.declared.selector.Step.{Step}
use Rattle.node_select.specs.Selection.{SelectsChild, step_tests}
use Rattle.usage_docs.specs.declared.schema_table.ElementKind.{ElementKind}
use Rattle.usage_docs.specs.SchemaTable.{Scope}
use Rattle.usage_docs.specs.readers.ContentParts.{may_follow, end_part}
use Rattle.usage_docs.specs.readers.NeighbourParts.{part_before, part_after}
use Rattle.edit_rules.specs.Removals.{StillSelectsChild, NeighboursMayMeet}
use Rattle.edit_plans.specs.inner.Neighbours.{part_in}
use Rattle.edit_rules.proofs.RemovedElements.{get_removed}
use Rattle.edit_plans.proofs.ParentAnswers.{true_false}
use Rattle.edit_plans.proofs.SideLemmas.{after_end, after_kid}

-- ---- the next match

module _ {A : Type 0} (step : StepTests A) (xs : List A) (j : ℕ) where
  -- between the removed one and the i-th none has the name
  abbrev pub NoneNamed : ℕ → Type 0
  NoneNamed i = (k : ℕ) (x : A) → j < k → k < i → slice_get xs k ≡ Some x → step.named x ≡ false

  pub no_next : (i : ℕ) → length xs ≤ i → NoneNamed i → (n : ℕ) × IsNextMatch step (remove xs j) j n → ⊥
  no_next i end_is none (n, m) =
      let there = sym ((get_removed xs j n).1 m.not_before) ∙ m.there in
      true_false (step.named m.child_element) m.is_named (none (suc n) m.child_element (let le = m.not_before in omega arith) (let lt = slice_get_within xs (suc n) m.child_element there in omega arith) there)

  -- the i-th is the first that has the name
  module _ (i : ℕ) (x : A) (behind : j < i) (there : slice_get xs i ≡ Some x) (is_named : IsTrue (step.named x)) (none : NoneNamed i) where
    here : (n : ℕ) × ((suc n ≡ i) × (j ≤ n))
    here = by i behind
      where
        by : (k : ℕ) → j < k → (n : ℕ) × ((suc n ≡ k) × (j ≤ n))
        by zero lt = absurd (omega arith)
        by (suc n) lt = (n, (refl, omega arith))

    there_now : slice_get (remove xs j) here.0 ≡ Some x
    unfolding here
    there_now = (get_removed xs j here.0).1 here.1.1 ∙ ap (slice_get xs) here.1.0 ∙ there

    pub next_is : IsTrue (step.tested x) → (n : ℕ) × IsNextMatch step (remove xs j) j n
    unfolding here
    next_is t = (
      here.0,
      record {
        child_element = x;
        there = there_now;
        not_before = here.1.1;
        is_named = is_named;
        first = λ k other low lt at. none (suc k) other (omega arith) (let e = here.1.0 in omega arith) (sym ((get_removed xs j k).1 low) ∙ at);
        is_tested = t;
      },
    )

    pub next_tested : (n : ℕ) × IsNextMatch step (remove xs j) j n → IsTrue (step.tested x)
    unfolding here
    next_tested (n, m) = by (cases_order n here.0)
      where
        by : (n ≡ here.0) ⊎ ((n < here.0) ⊎ (here.0 < n)) → IsTrue (step.tested x)
        by (inl same) = let child_element : m.child_element ≡ x = same_Some _ _ (sym m.there ∙ ap (slice_get (remove xs j)) same ∙ there_now) in ap step.tested (sym child_element) ∙ m.is_tested
        by (inr (inl lt)) =
            let at = sym ((get_removed xs j n).1 m.not_before) ∙ m.there in
            absurd (true_false (step.named m.child_element) m.is_named (none (suc n) m.child_element (let le = m.not_before in omega arith) (let e = here.1.0 in omega arith) at))
        by (inr (inr lt)) = absurd (true_false (step.named x) is_named (m.first here.0 x here.1.1 lt there_now))

-- ---- what is still selected

pub none_still : (c : Scope) (step : Step) (child_elements : List Tree) (j : ℕ) → step.position ≡ None → SelectsChild c step child_elements j → StillSelectsChild c step child_elements j → ⊥
none_still c step child_elements j none s h = removed_none (step_tests c step) child_elements j h.0 none s h.1.this

one_next : {A : Type 0} (step : StepTests A) (xs : List A) (j i k : ℕ) → IsNextMatch step xs j i → IsNextMatch step xs j k → k ≡ i
one_next step xs j i k a b = by (cases_order k i)
  where
    by : (k ≡ i) ⊎ ((k < i) ⊎ (i < k)) → k ≡ i
    by (inl same) = same
    by (inr (inl lt)) = absurd (true_false (step.named b.child_element) b.is_named (a.first k b.child_element b.not_before lt b.there))
    by (inr (inr lt)) = absurd (true_false (step.named a.child_element) a.is_named (b.first i a.child_element a.not_before lt a.there))

pub still_by_next : (c : Scope) (step : Step) (child_elements : List Tree) (j n : ℕ) → step.position ≡ Some n → SelectsChild c step child_elements j → StillSelectsChild c step child_elements j ↔ ((i : ℕ) × IsNextMatch (step_tests c step) (remove child_elements j) j i)
still_by_next c step child_elements j n is s = (
  λ h. (h.0, (next h.0).0 h.1.this),
  λ h. (
    h.0,
    record {
      this = (next h.0).1 h.1;
      alone = λ k m. one_next (step_tests c step) (remove child_elements j) j h.0 k h.1 ((next k).0 m);
    },
  ),
)
  where
    next : (i : ℕ) → Matches (step_tests c step) (remove child_elements j) i ↔ IsNextMatch (step_tests c step) (remove child_elements j) j i
    next i = removed_next (step_tests c step) n child_elements j i is s

-- ---- the neighbours

pub right_kid : (row : Option ElementKind) (c : Scope) (content : Content) (j i : ℕ) (child_element : Tree) (next : ℕ) → i ≡ suc j → slice_get (child_elements content) i ≡ Some child_element → next ≡ part_in row c child_element → ForSome row (λ kind. next ≡ part_after kind c (suc j) content)
right_kid row c content j i child_element next same there is =
    subst (λ (k : ℕ). ForSome row (λ kind. next ≡ part_after kind c k content)) same (after_kid row c content i child_element next there is)

pub right_end : (row : Option ElementKind) (c : Scope) (content : Content) (j : ℕ) → length (child_elements content) ≤ suc j → ForSome row (λ kind. end_part ≡ part_after kind c (suc j) content)
right_end row c content j le kind is = sym (after_end kind c content (suc j) le)

pub closes_by : (row : Option ElementKind) (c : Scope) (content : Content) (j : ℕ) (kind : ElementKind) (left right : ℕ) (b : Bool) → row ≡ Some kind → ForSome row (λ k. left ≡ part_before k c 0 j content) → ForSome row (λ k. right ≡ part_after k c (suc j) content)
    → b ≡ may_follow kind left right → IsTrue b ↔ NeighboursMayMeet row c content j
closes_by row c content j kind left right b is low high test =
    let same : b ≡ may_follow kind (part_before kind c 0 j content) (part_after kind c (suc j) content) =
    test ∙ ap (λ (n : ℕ). may_follow kind n right) (low kind is) ∙ ap (may_follow kind (part_before kind c 0 j content)) (high kind is) in (
      λ h k at. subst (λ (x : ElementKind). IsTrue (may_follow x (part_before x c 0 j content) (part_after x c (suc j) content))) (same_Some kind k (sym is ∙ at)) (sym same ∙ h),
      λ h. same ∙ h kind is,
    )

-- one more child that isn't the next match
pub none_more_named : {A : Type 0} (step : StepTests A) (xs : List A) (j i i' : ℕ) (x : A) (b : Bool) → i' ≡ i + 1 → slice_get xs i ≡ Some x → IsTrue b ↔ ((j < i) × IsTrue (step.named x)) → b ≡ false → NoneNamed step xs j i → NoneNamed step xs j i'
none_more_named step xs j i i' x b next there test fails none k y low lt at =
    elim (cases_lt k i) [
      | inl below ↦ none k y low below at
      | inr from ↦ (
          let same : k ≡ i = omega arith in
          let child_element : y ≡ x = same_Some _ _ (sym at ∙ ap (slice_get xs) same ∙ there) in
          ap step.named child_element ∙ not_named (step.named x) (λ n. true_false b (test.1 ((omega arith), n)) fails))
    ]
  where
    not_named : (p : Bool) → (IsTrue p → ⊥) → p ≡ false
    not_named true h = absurd (h refl)
    not_named false h = refl
