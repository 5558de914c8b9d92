-- The plan of an insertion decided from the parent is the plan of the whole document, in which
-- every insertion point is tried and selected again.
use Rattle.std.proofs.Common.{◌≡◌, inl, inr, ◌+◌, ◌≤◌, ℕ, List, [], ◌∷◌, ◌++◌, length, length-append, get_or, Option, Some, None, IsSome, Result, Ok, Err, refl, sym, ap, ◌∙◌, subst, arith}
use Rattle.node_select.specs.InsertionPoints.{IsLawfulInsertion, IsInsertionPlan}
use Rattle.node_select.proofs.GapPlans.{plan_alike}
use Rattle.doc_names.specs.declared.usages.Usage.{Usage}
use Rattle.xml_tree.specs.Tree.{Tree, at, child_elements_of}
use Rattle.xml_tree.specs.Edits.{put_in}
use Rattle.xml_tree.specs.TreeScopes.{scope_at}
use Rattle.node_select.specs.declared.selector.Step.{Step}
use Rattle.node_select.specs.Selection.{SelectsPath, step_tests}
use Rattle.node_select.proofs.Along.{path_there}
use Rattle.usage_docs.specs.declared.schema_table.ElementKind.{ElementKind}
use Rattle.usage_docs.specs.declared.validation.Fault.{Fault}
use Rattle.usage_docs.specs.Validation.{HasFirstFault}
use Rattle.usage_docs.specs.SchemaTable.{Scope}
use Rattle.usage_docs.specs.Validity as usage
use Rattle.edit_ops.specs.declared.change.Change.{Change}
use Rattle.edit_ops.specs.declared.change.Change.TheVariants.{Insert}
use Rattle.usage_docs.specs.declared.validation.Fault.TheVariants.{Invalid}
use Rattle.edit_rules.specs.declared.edit_refusal.EditRefusal.{EditRefusal}
use Rattle.edit_rules.specs.declared.edit_refusal.EditRefusal.TheVariants.{CannotInsert, Faulty}
use Rattle.usage_docs.specs.ElementKinds.{kind_at}
use Rattle.edit_rules.specs.LawfulInsertions.{IsLawfulGap}
use Rattle.edit_rules.specs.CheckedChanges.{IsCheckedChange, change_or_fault}
use Rattle.edit_rules.specs.ElementPuts.{IsResultOfGap, IsElementInsertion}
use Rattle.edit_rules.proofs.FirstBeside.{first_put, foreign_put}
use Rattle.edit_rules.proofs.FormedBeside.{formed_beside}
use Rattle.edit_rules.proofs.StaysSelected.{lawful_gap}
use Rattle.edit_rules.proofs.ValidBeside.{valid_beside}
use Rattle.edit_plans.specs.inner.ChildChangeResults.{HasFormedReferences, IsResultOfGapIn, IsNewChildResult, IsInsertionResult}
use Rattle.edit_plans.specs.inner.Neighbours.{FitsInsertionPoint}
use Rattle.edit_plans.specs.inner.ChangeResults.{RefusesWithFault, element_insertion}
use Rattle.edit_plans.proofs.ParentAnswers.{judged_from}

same_number : (gap n : ℕ) → ◌≡◌ {A = Result ℕ EditRefusal} (Ok gap) (Ok n) → n ≡ gap
same_number gap n h = cc

-- the result is a refusal or the insertion point
judged_number : (formed : Type 0) (row : Option ElementKind) (c : Scope) (child_elements : List Tree) (new : Tree) (q : List ℕ) (gap : ℕ) (placed : Result ℕ EditRefusal) → IsNewChildResult formed (record { kind = row; scope = c; elements = child_elements; path = q }) new gap placed → (n : ℕ) → placed ≡ Ok n → n ≡ gap
judged_number formed row c child_elements new q gap placed (inl h) n is = let z = sym h.0 ∙ is in cc
judged_number formed row c child_elements new q gap placed (inr (inl h)) n is = let z = sym h.1.0 ∙ is in cc
judged_number formed row c child_elements new q gap placed (inr (inr h)) n is = same_number gap n (sym h.0 ∙ is)

inserted_told : (q : List ℕ) (new : Tree) (gap : ℕ) (fault : Option Fault) (placed : Result ℕ EditRefusal) → ((n : ℕ) → placed ≡ Ok n → n ≡ gap) → RefusesWithFault fault placed → element_insertion q new placed ≡ change_or_fault (Insert q gap new) fault
inserted_told q new gap None placed one h = ap (element_insertion q new) h.1 ∙ ap (λ (n : ℕ). Ok (Insert q n new)) (one h.0 h.1)
inserted_told q new gap (Some fault) placed one h = ap (element_insertion q new) h

module _ (u : Usage) (t parent new : Tree) (q : List ℕ) (there : at q t ≡ Some parent) (faultless : HasFirstFault u t None) where
  check_insertion : (gap : ℕ) → gap ≤ length (child_elements_of parent) → usage.IsValidDocument u (put_in q gap new t) → (placed : Result ℕ EditRefusal) → IsNewChildResult (HasFormedReferences (kind_at u t q) (scope_at q t) new) (record { kind = kind_at u t q; scope = scope_at q t; elements = child_elements_of parent; path = q }) new gap placed → IsCheckedChange u t (Insert q gap new) (element_insertion q new placed)
  check_insertion gap le valid placed h =
      let row = kind_at u t q in
      let c = scope_at q t in
      let j = judged_from (HasFormedReferences row c new) row c (child_elements_of parent) new q gap u (put_in q gap new t) placed valid (formed_beside u t parent new q gap there le faultless.1)
      (λ kind is found. (first_put u t parent new q gap there le faultless.2 kind is found).0) (foreign_put u t parent new q gap there le faultless.2) h in
      (j.0, (j.1.0, inserted_told q new gap j.0 placed (judged_number (HasFormedReferences row c new) row c (child_elements_of parent) new q gap placed h) j.1.1))

  from_gap : (gap placed : Result ℕ EditRefusal) → ((j : ℕ) → gap ≡ Ok j → (j ≤ length (child_elements_of parent)) × usage.IsValidDocument u (put_in q j new t)) → IsResultOfGapIn (record { kind = kind_at u t q; scope = scope_at q t; elements = child_elements_of parent; path = q }) new gap placed → IsResultOfGap (λ gap. IsCheckedChange u t (Insert q gap new)) gap (element_insertion q new placed)
  from_gap (Ok gap) placed within h = let w = within gap refl in check_insertion gap w.0 w.1 placed h
  from_gap (Err why) placed within h = ap (element_insertion q new) h

-- the chosen insertion point exists, and is valid
within_plan : {E : Type 0} (unlawful invalid : E) (L V : ℕ → Type 0) (many j : ℕ) (r : Result ℕ E) → IsInsertionPlan unlawful invalid L V (many + 1) r → r ≡ Ok j → (j ≤ many) × V j
within_plan unlawful invalid L V many j (Ok gap) h is = let same : gap ≡ j = cc in let lt = h.within in (omega arith, subst V same h.is_valid)
within_plan unlawful invalid L V many j (Err e) h is = cc

insertion_is : (u : Usage) (t parent new : Tree) (q : List ℕ) (first : Step) (steps : List Step) (s : Step) (placed : Result ℕ EditRefusal) → at q t ≡ Some parent → HasFirstFault u t None → SelectsPath (first ∷ steps) t q
    → IsInsertionResult (record { kind = kind_at u t q; scope = scope_at q t; step = s; element = parent }) new q placed → IsElementInsertion (record { usage = u; document = t; steps = first ∷ (steps ++ s ∷ []) }) q new (element_insertion q new placed)
insertion_is u t parent new q first steps s placed there faultless selects h =
    let many = length (child_elements_of parent) in
    let L = IsLawfulInsertion (step_tests (scope_at q t) s) (child_elements_of parent) new in
    let V = FitsInsertionPoint (kind_at u t q) (scope_at q t) parent.content new in
    let all = first ∷ (steps ++ s ∷ []) in
    let V' : ℕ → Type 0 = λ j. usage.IsValidDocument u (put_in q j new t) in
    let chosen = plan_alike CannotInsert (Faulty Invalid) L (IsLawfulGap all t new q) V V' (many + 1) h.gap
    (λ j lt. let x = lawful_gap first steps s t parent new q j selects there (omega arith) in (λ a. x.1 a, λ a. x.0 a))
    (λ j lt. let x = valid_beside u t parent new q j there (omega arith) faultless.0 in (λ a. x.1 a, λ a. x.0 a))
    h.is_chosen in
    record {
      parent = parent;
      there = there;
      gap = h.gap;
      is_chosen = chosen;
      then = from_gap u t parent new q there faultless h.gap placed (λ j is. within_plan CannotInsert (Faulty Invalid) (IsLawfulGap all t new q) V' many j h.gap chosen is) h.then;
    }

-- as the edit target of the selector states it
insertion_by_steps : (u : Usage) (t parent new : Tree) (q : List ℕ) (all before : List Step) (s : Step) (placed : Result ℕ EditRefusal) → all ≡ before ++ s ∷ [] → at q t ≡ Some parent → HasFirstFault u t None → SelectsPath before t q
    → IsInsertionResult (record { kind = kind_at u t q; scope = scope_at q t; step = s; element = parent }) new q placed → IsElementInsertion (record { usage = u; document = t; steps = all }) q new (element_insertion q new placed)
insertion_by_steps u t parent new q all [] s placed are there faultless selects h = absurd selects
insertion_by_steps u t parent new q all (first ∷ steps) s placed are there faultless selects h =
    subst (λ (l : List Step). IsElementInsertion (record { usage = u; document = t; steps = l }) q new (element_insertion q new placed)) (sym are) (insertion_is u t parent new q first steps s placed there faultless selects h)

pub some_of : (o : Option Tree) → IsSome o → (x : Tree) × (o ≡ Some x)
some_of None h = cc
some_of (Some x) h = (x, refl)

pub parent_is_there : (t : Tree) (q : List ℕ) (before : List Step) → SelectsPath before t q → IsSome (at q t)
parent_is_there t q before h = path_there before t q h

pub planned : (u : Usage) (t new : Tree) (q : List ℕ) (all before : List Step) (s : Step) (placed : Result ℕ EditRefusal) (result : Result Change EditRefusal) → all ≡ before ++ s ∷ [] → SelectsPath before t q → HasFirstFault u t None
    → ((parent : Tree) → at q t ≡ Some parent → IsInsertionResult (record { kind = kind_at u t q; scope = scope_at q t; step = s; element = parent }) new q placed) → result ≡ element_insertion q new placed → IsElementInsertion (record { usage = u; document = t; steps = all }) q new result
planned u t new q all before s placed result are selects faultless h is =
    let p = some_of (at q t) (parent_is_there t q before selects) in
    subst (λ (r : Result Change EditRefusal). IsElementInsertion (record { usage = u; document = t; steps = all }) q new r) (sym is) (insertion_by_steps u t p.0 new q all before s placed are p.1 faultless selects (h p.0 p.1))

-- the last of the steps
last_of : (before : List Step) (s d : Step) (n : ℕ) → n ≡ length before → get_or (before ++ s ∷ []) n d ≡ s
last_of [] s d n is = rw is refl
last_of (x ∷ before) s d n is = rw is (last_of before s d (length before) refl)

pub last_step_is : (all before : List Step) (s d : Step) (n : ℕ) → all ≡ before ++ s ∷ [] → n + 1 ≡ length all → get_or all n d ≡ s
last_step_is all before s d n are len =
    let l : n ≡ length before = omega (arith, ap (λ (xs : List Step). length xs) are, length-append before (s ∷ [])) in
    ap (λ (xs : List Step). get_or xs n d) are ∙ last_of before s d n l
