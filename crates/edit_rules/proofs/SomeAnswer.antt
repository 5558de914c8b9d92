-- Each plan has a result.
use Rattle.std.specs.Str.{bytes_eq}
use Rattle.std.specs.Cmp.Lexicographic.{bytes_decides}
use Rattle.std.specs.List.{list_any}
use Rattle.std.proofs.Common.{◌≡◌, ◌⊎◌, inl, inr, ◌↔◌, ℕ, zero, suc, ◌+◌, Bool, true, false, List, [], ◌∷◌, ◌++◌, length, find, Option, Some, None, IsSome, IsTrue, option_map, Result, Ok, Err, refl, sym, ap, ◌∙◌, subst, add-one}
use Rattle.std.proofs.lemmas.Option.{same_Some}
use Rattle.node_select.specs.InsertionPoints.{IsInsertionPlan, plan_with_gap}
use Rattle.node_select.proofs.GapPlans.{plan_more, plan_none}
use Rattle.doc_names.specs.declared.usages.Usage.{Usage}
use Rattle.xml_tree.specs.Tree.{Tree, at, child_elements_of}
use Rattle.xml_tree.specs.Edits.{put_in}
use Rattle.xml_tree.specs.TreeScopes.{scope_at}
use Rattle.xml_names.specs.declared.names.Name.{Name}
use Rattle.xml_names.specs.declared.names.Attr.{Attr}
use Rattle.node_select.specs.Selection.{FindsNode, SelectsPath, has_end, is_attr_named, longest_match_in, selected_element_path}
use Rattle.node_select.specs.declared.selector.Step.{Step}
use Rattle.node_select.specs.declared.selector.End.{End}
use Rattle.node_select.specs.declared.selector.End.TheVariants as ends
use Rattle.node_select.specs.declared.selector.Selector.{Selector}
use Rattle.node_select.proofs.Along.{one_path, path_there}
use Rattle.node_select.proofs.ReachLemmas.{longest_is, path_is}
use Rattle.usage_docs.specs.Validation.{HasFirstFault}
use Rattle.usage_docs.specs.declared.validation.Fault.{Fault}
use Rattle.usage_docs.specs.declared.validation.Fault.TheVariants.{Invalid, Unformed, Repeated}
use Rattle.usage_docs.specs.Validity as usage
use Rattle.usage_docs.proofs.Judgements.{judgement}
use Rattle.edit_ops.specs.Changes.{edited}
use Rattle.edit_ops.specs.declared.change.Change.{Change}
use Rattle.edit_ops.specs.declared.change.Change.TheVariants.{Insert, Replace, Remove, SetAttr, DropAttr}
use Rattle.edit_rules.specs.declared.spot.Spot.{Spot}
use Rattle.edit_rules.specs.declared.spot.Spot.TheVariants.{Over, Under, Beside, Value}
use Rattle.edit_rules.specs.declared.spot.NoParent.{NoParent}
use Rattle.edit_rules.specs.declared.edit_refusal.EditRefusal.{EditRefusal}
use Rattle.edit_rules.specs.declared.edit_refusal.EditRefusal.TheVariants.{CannotInsert, CannotDelete, NotFound, Faulty}
use Rattle.edit_rules.specs.AttributePuts.{FindsValue, IsAttrPlan, IsValuePlan, IsAttributeWrite, written_name}
use Rattle.edit_rules.specs.Deletions.{FindsNothingAfter, IsDeletePlan, IsAttributeRemoval, IsDeletePlanFor, IsElementRemoval}
use Rattle.edit_rules.specs.LawfulInsertions.{IsLawfulGap, IsLawfulReplacement}
use Rattle.edit_rules.specs.CheckedChanges.{IsCheckedChange, IsCheckedIfLawful, change_or_fault}
use Rattle.edit_rules.specs.ElementPuts.{IsResultOfGap, IsElementInsertion, IsPutPlan}
use Rattle.edit_rules.specs.Spots.{EndsInAttribute, IsSpot, IsSpotOf, SelectNothing}

-- ---- tests of what is selected and valid

abbrev Known : Type 0 → Type 0
Known P = (b : Bool) × (IsTrue b ↔ P)

known : {P : Type 0} → P → Known P
known p = (true, (λ h. p, λ h. refl))

known_not : {P : Type 0} → (P → ⊥) → Known P
known_not fails = (false, (λ h. cc, λ p. absurd (fails p)))

abbrev Decided : Type 0 → Type 0
Decided P = P ⊎ (P → ⊥)

decided : (P : Type 0) → Known P → Decided P
decided P (true, is) = inl (is.0 refl)
decided P (false, is) = inr (λ p. let z = is.1 p in cc)

schema_known : (u : Usage) (t : Tree) → Known (usage.IsValidDocument u t)
schema_known u t = let j = judgement u t in by j.0 j.1
  where
    by : (fault : Option Fault) → HasFirstFault u t fault → Known (usage.IsValidDocument u t)
    by None h = known h.0
    by (Some Invalid) h = known_not h
    by (Some Unformed) h = known h.0
    by (Some (Repeated clash)) h = known h.0

path_known : (steps : List Step) (t : Tree) (p : List ℕ) → Known (SelectsPath steps t p)
path_known steps t p = by (selected_element_path steps t) refl
  where
    by : (o : Option (List ℕ)) → selected_element_path steps t ≡ o → Known (SelectsPath steps t p)
    by None e = known_not (λ s. let z : None ≡ Some p = sym e ∙ (path_is steps t p).1 s in cc)
    by (Some q) e = (
      bytes_eq q p,
      (
        λ h. (path_is steps t p).0 (e ∙ ap (λ (l : List ℕ). Some l) ((bytes_decides q p).0 h)),
        λ s. (bytes_decides q p).1 (same_Some q p (sym e ∙ (path_is steps t p).1 s)),
      ),
    )

-- the element that the steps select, if they select one
selected_or_not : (steps : List Step) (t : Tree) → ((p : List ℕ) × SelectsPath steps t p) ⊎ SelectNothing steps t
selected_or_not steps t = by (selected_element_path steps t) refl
  where
    by : (o : Option (List ℕ)) → selected_element_path steps t ≡ o → ((p : List ℕ) × SelectsPath steps t p) ⊎ SelectNothing steps t
    by None e = inr (λ p s. let z : None ≡ Some p = sym e ∙ (path_is steps t p).1 s in cc)
    by (Some q) e = inl (q, (path_is steps t q).0 e)

element_there : (o : Option Tree) → IsSome o → (e : Tree) × (o ≡ Some e)
element_there None h = cc
element_there (Some e) h = (e, refl)

-- ---- a change that is tested

some_judged : (u : Usage) (t : Tree) (change : Change) → (r : Result Change EditRefusal) × IsCheckedChange u t change r
some_judged u t change = let j = judgement u (edited t change) in (change_or_fault change j.0, (j.0, (j.1, refl)))

some_tested : (unlawful : EditRefusal) (lawful : Type 0) (u : Usage) (t : Tree) (change : Change) → Decided lawful → (r : Result Change EditRefusal) × IsCheckedIfLawful unlawful lawful (IsCheckedChange u t change) r
some_tested unlawful lawful u t change (inl is) = let j = some_judged u t change in (j.0, inr (is, j.1))
some_tested unlawful lawful u t change (inr fails) = (Err unlawful, inl (refl, fails))

-- ---- PUT of an element

some_gap : (L V : ℕ → Type 0) → ((j : ℕ) → Known (L j)) → ((j : ℕ) → Known (V j)) → (n : ℕ) → (r : Result ℕ EditRefusal) × IsInsertionPlan CannotInsert (Faulty Invalid) L V n r
some_gap L V l v zero = (Err CannotInsert, plan_none CannotInsert (Faulty Invalid) L V)
some_gap L V l v (suc n) =
    let below = some_gap L V l v n in
    let next = plan_with_gap (Faulty Invalid) below.0 n (l n).0 (v n).0 in
    (next, subst (λ k. IsInsertionPlan CannotInsert (Faulty Invalid) L V k next) (add-one n) (plan_more CannotInsert (Faulty Invalid) L V n below.0 (l n).0 (v n).0 below.1 (l n).1 (v n).1))

from_some_gap : (u : Usage) (t : Tree) (q : List ℕ) (e : Tree) (g : Result ℕ EditRefusal) → (r : Result Change EditRefusal) × IsResultOfGap (λ gap. IsCheckedChange u t (Insert q gap e)) g r
from_some_gap u t q e (Ok gap) = some_judged u t (Insert q gap e)
from_some_gap u t q e (Err why) = (Err why, refl)

some_insertion : (u : Usage) (t : Tree) (steps : List Step) (q : List ℕ) (e parent : Tree) → at q t ≡ Some parent → (r : Result Change EditRefusal) × IsElementInsertion (record { usage = u; document = t; steps = steps }) q e r
some_insertion u t steps q e parent there =
    let gap = some_gap (IsLawfulGap steps t e q) (λ j. usage.IsValidDocument u (put_in q j e t)) (λ j. path_known steps (put_in q j e t) (q ++ j ∷ [])) (λ j. schema_known u (put_in q j e t)) (length (child_elements_of parent) + 1) in
    let plan = from_some_gap u t q e gap.0 in
    (plan.0, record { parent = parent; there = there; gap = gap.0; is_chosen = gap.1; then = plan.1 })

not_both : (end : End) → end ≡ ends.Element → EndsInAttribute end → ⊥
not_both end is a = let e : ends.Element ≡ ends.Attribute a.0 a.1.0 = sym is ∙ a.1.1 in cc

pub some_put : (u : Usage) (t : Tree) (selector : Selector) (spot : Spot) (e : Tree) → selector.end ≡ ends.Element → IsSpotOf t selector spot → (r : Result Change EditRefusal) × IsPutPlan (record { usage = u; document = t; steps = selector.steps }) spot e r
some_put u t selector (Over p) e ends_so is =
    some_tested CannotInsert (IsLawfulReplacement selector.steps t e p) u t (Replace p e) (decided (IsLawfulReplacement selector.steps t e p) (path_known selector.steps (edited t (Replace p e)) p))
some_put u t selector (Under q) e ends_so is =
    let parent = element_there (at q t) (path_there is.2.before t q is.2.selects) in
    some_insertion u t selector.steps q e parent.0 parent.1
some_put u t selector Beside e ends_so is = (Err CannotInsert, refl)
some_put u t selector (Value p) e ends_so is = absurd (not_both selector.end ends_so is.0)

-- ---- PUT of an attribute

value_decided : (steps : List Step) (uri local : List ℕ) (t : Tree) (p value : List ℕ) → Decided (FindsValue steps (record { path = p; uri = uri; local = local }) t value)
value_decided steps uri local t p value = by (decided (SelectsPath steps t p) (path_known steps t p))
  where
    by_value : SelectsPath steps t p → (e : Tree) → at p t ≡ Some e → (o : Option (List ℕ)) → option_map (λ (a : Attr). a.value) (find (is_attr_named (scope_at p t) uri local) e.attrs) ≡ o
        → Decided (FindsValue steps (record { path = p; uri = uri; local = local }) t value)
    by_value s e there None is = inr (λ h.
        let same : h.element ≡ e = same_Some h.element e (sym h.there ∙ there) in
        let has = subst (λ (x : Tree). option_map (λ (a : Attr). a.value) (find (is_attr_named (scope_at p t) uri local) x.attrs) ≡ Some value) same h.has in
        let z : None ≡ Some value = sym is ∙ has in cc)
    by_value s e there (Some v) is = by_equal (bytes_eq v value) refl
      where
        by_equal : (b : Bool) → bytes_eq v value ≡ b → Decided (FindsValue steps (record { path = p; uri = uri; local = local }) t value)
        by_equal true h = inl (record { selects = s; element = e; there = there; has = is ∙ ap (λ (l : List ℕ). Some l) ((bytes_decides v value).0 h) })
        by_equal false h = inr (λ f.
            let same : f.element ≡ e = same_Some f.element e (sym f.there ∙ there) in
            let has = subst (λ (x : Tree). option_map (λ (a : Attr). a.value) (find (is_attr_named (scope_at p t) uri local) x.attrs) ≡ Some value) same f.has in
            let z : true ≡ false = sym ((bytes_decides v value).1 (same_Some v value (sym is ∙ has))) ∙ h in cc)

    by : Decided (SelectsPath steps t p) → Decided (FindsValue steps (record { path = p; uri = uri; local = local }) t value)
    by (inr fails) = inr (λ h. fails h.selects)
    by (inl s) = let e = element_there (at p t) (path_there steps t p s) in by_value s e.0 e.1 (option_map (λ (a : Attr). a.value) (find (is_attr_named (scope_at p t) uri local) e.0.attrs)) refl

some_writing : (u : Usage) (t : Tree) (steps : List Step) (uri local p value : List ℕ) (name : Option Name) → (r : Result Change EditRefusal) × IsAttributeWrite (record { usage = u; document = t; steps = steps }) (record { path = p; uri = uri; local = local }) value name r
some_writing u t steps uri local p value None = (Err CannotInsert, refl)
some_writing u t steps uri local p value (Some name) =
    let new = edited t (SetAttr p name value) in
    some_tested CannotInsert (FindsValue steps (record { path = p; uri = uri; local = local }) new value) u t (SetAttr p name value) (value_decided steps uri local new p value)

some_value : (u : Usage) (t : Tree) (steps : List Step) (uri local p value : List ℕ) → SelectsPath steps t p → (r : Result Change EditRefusal) × IsValuePlan (record { usage = u; document = t; steps = steps }) (record { path = p; uri = uri; local = local }) value r
some_value u t steps uri local p value s =
    let e = element_there (at p t) (path_there steps t p s) in
    let plan = some_writing u t steps uri local p value (written_name (scope_at p t) uri local e.0.attrs) in
    (plan.0, record { element = e.0; there = e.1; plan = plan.1 })

pub some_attr : (u : Usage) (t : Tree) (selector : Selector) (p value : List ℕ) → IsSpotOf t selector (Value p) → (r : Result Change EditRefusal) × IsAttrPlan (record { usage = u; document = t; steps = selector.steps }) selector.end p value r
some_attr u t selector p value is =
    let plan = some_value u t selector.steps is.0.0 is.0.1.0 p value is.1 in
    (plan.0, subst (λ (end : End). IsAttrPlan (record { usage = u; document = t; steps = selector.steps }) end p value plan.0) (sym is.0.1.1) plan.1)

-- ---- DELETE

found_by : (t : Tree) (selector : Selector) (p : List ℕ) → SelectsPath selector.steps t p → (e : Tree) → at p t ≡ Some e → (b : Bool) → has_end selector.end (scope_at p t) e ≡ b → Decided (FindsNode t selector)
found_by t selector p s e there true is = inl (record { path = p; element = e; selects = s; there = there; has = is })
found_by t selector p s e there false is = inr (λ f.
    let path : f.path ≡ p = one_path selector.steps t f.path p f.selects s in
    let element : f.element ≡ e = same_Some f.element e (sym f.there ∙ ap (λ (l : List ℕ). at l t) path ∙ there) in
    let has = subst (λ (l : List ℕ). IsTrue (has_end selector.end (scope_at l t) e)) path (subst (λ (x : Tree). IsTrue (has_end selector.end (scope_at f.path t) x)) element f.has) in
    let z : true ≡ false = sym has ∙ is in cc)

found_decided : (t : Tree) (selector : Selector) → Decided (FindsNode t selector)
found_decided t selector = by (selected_or_not selector.steps t)
  where
    by : ((p : List ℕ) × SelectsPath selector.steps t p) ⊎ SelectNothing selector.steps t → Decided (FindsNode t selector)
    by (inr fails) = inr (λ f. fails f.path f.selects)
    by (inl s) = let e = element_there (at s.0 t) (path_there selector.steps t s.0 s.1) in found_by t selector s.0 s.1 e.0 e.1 (has_end selector.end (scope_at s.0 t) e.0) refl

nothing_decided : (selector : Selector) (t : Tree) (change : Change) → Decided (FindsNothingAfter selector t change)
nothing_decided selector t change = by (found_decided (edited t change) selector)
  where
    by : Decided (FindsNode (edited t change) selector) → Decided (FindsNothingAfter selector t change)
    by (inl f) = inr (λ fails. fails f)
    by (inr fails) = inl fails

some_removal : (u : Usage) (t : Tree) (selector : Selector) (p : List ℕ) → (r : Result Change EditRefusal) × IsElementRemoval (record { usage = u; document = t; selector = selector }) p r
some_removal u t selector [] = (Err (Faulty Invalid), refl)
some_removal u t selector (n ∷ p) = some_tested CannotDelete (FindsNothingAfter selector t (Remove (n ∷ p))) u t (Remove (n ∷ p)) (nothing_decided selector t (Remove (n ∷ p)))

-- some attribute passes, so one is found
found_attr : (test : Attr → Bool) (ats : List Attr) → IsTrue (list_any test ats) → (a : Attr) × (find test ats ≡ Some a)
found_attr test [] h = cc
found_attr test (x ∷ ats) h = by (test x) refl (found_attr test ats)
  where
    by : (b : Bool) → test x ≡ b → (IsTrue (list_any test ats) → (a : Attr) × (find test ats ≡ Some a)) → (a : Attr) × (find test (x ∷ ats) ≡ Some a)
    by true e rest = (x, rw e refl)
    by false e rest = let r = rest (rw e at h) in (r.0, rw e r.1)

some_drop : (u : Usage) (t : Tree) (selector : Selector) (p : List ℕ) (e : Tree) (uri local : List ℕ) → IsTrue (list_any (is_attr_named (scope_at p t) uri local) e.attrs) → (r : Result Change EditRefusal) × IsAttributeRemoval (record { usage = u; document = t; selector = selector }) (record { path = p; uri = uri; local = local }) e r
some_drop u t selector p e uri local has =
    let a = found_attr (is_attr_named (scope_at p t) uri local) e.attrs has in
    let change = DropAttr p a.0.name in
    let plan = some_tested CannotDelete (FindsNothingAfter selector t change) u t change (nothing_decided selector t change) in
    (plan.0, record { attr = a.0; that = a.1; then = plan.1 })

some_plan_for : (u : Usage) (t : Tree) (selector : Selector) (p : List ℕ) (e : Tree) (end : End) → (end ≡ ends.Namespaces → ⊥) → IsTrue (has_end end (scope_at p t) e) → (r : Result Change EditRefusal) × IsDeletePlanFor (record { usage = u; document = t; selector = selector }) p e end r
some_plan_for u t selector p e ends.Element node has = some_removal u t selector p
some_plan_for u t selector p e (ends.Attribute uri local) node has = some_drop u t selector p e uri local has
some_plan_for u t selector p e ends.Namespaces node has = absurd (node refl)

pub some_delete : (u : Usage) (t : Tree) (selector : Selector) → (selector.end ≡ ends.Namespaces → ⊥) → (r : Result Change EditRefusal) × IsDeletePlan u t selector r
some_delete u t selector node = by (found_decided t selector)
  where
    by : Decided (FindsNode t selector) → (r : Result Change EditRefusal) × IsDeletePlan u t selector r
    by (inr fails) = (Err NotFound, inl (refl, fails))
    by (inl f) = let plan = some_plan_for u t selector f.path f.element selector.end node f.has in (plan.0, inr (f, plan.1))

-- ---- the edit target of a PUT

-- steps without the last one
record Ending (steps : List Step) : Type 0 where
  before : List Step
  step : Step
  are : steps ≡ before ++ step ∷ []

ending : (s : Step) (ss : List Step) → Ending (s ∷ ss)
ending s [] = record { before = []; step = s; are = refl }
ending s (r ∷ ss) = let e = ending r ss in record { before = s ∷ e.before; step = e.step; are = ap (λ (l : List Step). s ∷ l) e.are }

no_ending : (b : List Step) (s : Step) → [] ≡ b ++ s ∷ [] → ⊥
no_ending [] s h = cc
no_ending (x ∷ b) s h = cc

same_ending : (a b : List Step) (s r : Step) → a ++ s ∷ [] ≡ b ++ r ∷ [] → a ≡ b
same_ending [] [] s r h = refl
same_ending [] (y ∷ []) s r h = cc
same_ending [] (y ∷ z ∷ b) s r h = cc
same_ending (x ∷ []) [] s r h = cc
same_ending (x ∷ z ∷ a) [] s r h = cc
same_ending (x ∷ a) (y ∷ b) s r h =
    let head : x ≡ y = cc in
    let rest : a ++ s ∷ [] ≡ b ++ r ∷ [] = cc in
    λ i. head i ∷ same_ending a b s r rest i

none_of : ℕ → NoParent
none_of k = record { steps = k }

no_parent : (t : Tree) (selector : Selector) → ((spot : Spot) → IsSpotOf t selector spot → ⊥) → (r : Result Spot NoParent) × IsSpot t selector r
unfolding none_of
no_parent t selector fails = (Err (none_of (longest_match_in selector.steps t)), (longest_is selector.steps t, fails))

-- the edit target of an element that doesn't exist, or that there is none, by the selector's
-- steps
spot_beside : (t : Tree) (selector : Selector) → selector.end ≡ ends.Element → SelectNothing selector.steps t → (steps : List Step) → selector.steps ≡ steps → (r : Result Spot NoParent) × IsSpot t selector r
spot_beside t selector ends_so nothing [] is = no_parent t selector none
  where
    none : (spot : Spot) → IsSpotOf t selector spot → ⊥
    none (Over p) h = nothing p h.1
    none (Under q) h = no_ending h.2.before h.2.step (sym is ∙ h.2.are)
    none Beside h = no_ending [] h.2.0 (sym is ∙ h.2.1)
    none (Value p) h = nothing p h.1
spot_beside t selector ends_so nothing (s ∷ ss) is = let e = ending s ss in by e.before e.step (is ∙ e.are) (selected_or_not e.before t)
  where
    alone : (before : List Step) (step : Step) → selector.steps ≡ before ++ step ∷ [] → SelectNothing before t → (r : Result Spot NoParent) × IsSpot t selector r
    alone [] step are fails = (Ok Beside, (ends_so, nothing, (step, are)))
    alone (x ∷ before) step are fails = no_parent t selector none
      where
        none : (spot : Spot) → IsSpotOf t selector spot → ⊥
        none (Over p) h = nothing p h.1
        none (Under q) h = fails q (subst (λ (l : List Step). SelectsPath l t q) (same_ending h.2.before (x ∷ before) h.2.step step (sym h.2.are ∙ are)) h.2.selects)
        none Beside h = let z : [] ≡ x ∷ before = same_ending [] (x ∷ before) h.2.0 step (sym h.2.1 ∙ are) in cc
        none (Value p) h = nothing p h.1

    by : (before : List Step) (step : Step) → selector.steps ≡ before ++ step ∷ [] → ((q : List ℕ) × SelectsPath before t q) ⊎ SelectNothing before t → (r : Result Spot NoParent) × IsSpot t selector r
    by before step are (inl s) = (Ok (Under s.0), (ends_so, nothing, record { before = before; step = step; are = are; selects = s.1 }))
    by before step are (inr fails) = alone before step are fails

-- by how the selector ends
spot_by : (t : Tree) (selector : Selector) (end : End) → selector.end ≡ end → ((p : List ℕ) × SelectsPath selector.steps t p) ⊎ SelectNothing selector.steps t → (r : Result Spot NoParent) × IsSpot t selector r
spot_by t selector ends.Element is (inl s) = (Ok (Over s.0), (is, s.1))
spot_by t selector ends.Element is (inr nothing) = spot_beside t selector is nothing selector.steps refl
spot_by t selector (ends.Attribute uri local) is (inl s) = (Ok (Value s.0), ((uri, (local, is)), s.1))
spot_by t selector (ends.Attribute uri local) is (inr nothing) = no_parent t selector none
  where
    none : (spot : Spot) → IsSpotOf t selector spot → ⊥
    none (Over p) h = nothing p h.1
    none (Under q) h = not_both selector.end h.0 (uri, (local, is))
    none Beside h = not_both selector.end h.0 (uri, (local, is))
    none (Value p) h = nothing p h.1
spot_by t selector ends.Namespaces is s = no_parent t selector none
  where
    element : selector.end ≡ ends.Element → ⊥
    element h = let z : ends.Namespaces ≡ ends.Element = sym is ∙ h in cc

    none : (spot : Spot) → IsSpotOf t selector spot → ⊥
    none (Over p) h = element h.0
    none (Under q) h = element h.0
    none Beside h = element h.0
    none (Value p) h = let z : ends.Namespaces ≡ ends.Attribute h.0.0 h.0.1.0 = sym is ∙ h.0.1.1 in cc

pub some_spot : (t : Tree) (selector : Selector) → (r : Result Spot NoParent) × IsSpot t selector r
some_spot t selector = spot_by t selector selector.end refl (selected_or_not selector.steps t)
