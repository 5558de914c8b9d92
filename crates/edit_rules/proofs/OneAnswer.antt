-- Each plan has at most one result.
use Rattle.std.proofs.Common.{◌≡◌, ◌⊎◌, inl, inr, ℕ, ◌<◌, ◌+◌, List, [], ◌∷◌, ◌++◌, length, Option, Some, None, Result, Ok, Err, refl, sym, ap, ap₂, ◌∙◌, subst, arith}
use Rattle.std.proofs.lemmas.Bool.{cases_order}
use Rattle.std.proofs.lemmas.Option.{same_Some}
use Rattle.node_select.specs.InsertionPoints.{IsInsertionPlan}
use Rattle.node_select.proofs.GapPlans.{one_plan}
use Rattle.doc_names.specs.declared.usages.Usage.{Usage}
use Rattle.xml_tree.specs.Tree.{Tree, at, child_elements_of}
use Rattle.xml_tree.specs.Edits.{put_in}
use Rattle.xml_tree.specs.TreeScopes.{scope_at}
use Rattle.xml_names.specs.declared.names.Name.{Name}
use Rattle.xml_names.specs.declared.names.Attr.{Attr}
use Rattle.node_select.specs.Selection.{IsLongestMatch, SelectsPath}
use Rattle.node_select.specs.declared.selector.Step.{Step}
use Rattle.node_select.specs.declared.selector.End.{End}
use Rattle.node_select.specs.declared.selector.End.TheVariants as ends
use Rattle.node_select.specs.declared.selector.Selector.{Selector}
use Rattle.node_select.proofs.Along.{one_path}
use Rattle.usage_docs.specs.Validity as usage
use Rattle.usage_docs.proofs.Judgements.{judged_one}
use Rattle.edit_ops.specs.Changes.{edited}
use Rattle.edit_ops.specs.declared.change.Change.{Change}
use Rattle.edit_ops.specs.declared.change.Change.TheVariants.{Insert, Replace, Remove, SetAttr, DropAttr}
use Rattle.edit_rules.specs.declared.spot.Spot.{Spot}
use Rattle.edit_rules.specs.declared.spot.Spot.TheVariants.{Over, Under, Beside, Value}
use Rattle.edit_rules.specs.declared.spot.NoParent.{NoParent}
use Rattle.usage_docs.specs.declared.validation.Fault.TheVariants.{Invalid}
use Rattle.edit_rules.specs.declared.edit_refusal.EditRefusal.{EditRefusal}
use Rattle.edit_rules.specs.declared.edit_refusal.EditRefusal.TheVariants.{CannotInsert, CannotDelete, Faulty}
use Rattle.edit_rules.specs.AttributePuts.{FindsValue, IsAttrPlan, IsValuePlan, IsAttributeWrite, written_name}
use Rattle.edit_rules.specs.Deletions.{FindsNothingAfter, IsDeletePlan, IsAttributeRemoval, IsDeletePlanFor, IsElementRemoval}
use Rattle.edit_rules.specs.LawfulInsertions.{IsLawfulGap, IsLawfulReplacement}
use Rattle.edit_rules.specs.CheckedChanges.{IsCheckedChange, IsCheckedIfLawful, change_or_fault}
use Rattle.edit_rules.specs.ElementPuts.{IsResultOfGap, IsElementInsertion, IsPutPlan}
use Rattle.edit_rules.specs.Spots.{EndsInAttribute, IsSpot, IsSpotOf, SelectsParent}

-- ---- a change by the first fault, and a tested change

module _ (u : Usage) (t : Tree) (change : Change) where
  one_judgement : (r s : Result Change EditRefusal) → IsCheckedChange u t change r → IsCheckedChange u t change s → r ≡ s
  one_judgement r s a b = a.1.1 ∙ ap (change_or_fault change) (judged_one u (edited t change) a.0 b.0 a.1.0 b.1.0) ∙ sym b.1.1

  one_test : (unlawful : EditRefusal) (lawful : Type 0) (r s : Result Change EditRefusal) → IsCheckedIfLawful unlawful lawful (IsCheckedChange u t change) r → IsCheckedIfLawful unlawful lawful (IsCheckedChange u t change) s → r ≡ s
  one_test unlawful lawful r s (inl a) (inl b) = a.0 ∙ sym b.0
  one_test unlawful lawful r s (inl a) (inr b) = absurd (a.1 b.0)
  one_test unlawful lawful r s (inr a) (inl b) = absurd (b.1 a.0)
  one_test unlawful lawful r s (inr a) (inr b) = one_judgement r s a.1 b.1

-- ---- PUT of an element

from_one_gap : (u : Usage) (t : Tree) (q : List ℕ) (e : Tree) (g : Result ℕ EditRefusal) (r s : Result Change EditRefusal) → IsResultOfGap (λ gap. IsCheckedChange u t (Insert q gap e)) g r → IsResultOfGap (λ gap. IsCheckedChange u t (Insert q gap e)) g s → r ≡ s
from_one_gap u t q e (Ok gap) r s a b = one_judgement u t (Insert q gap e) r s a b
from_one_gap u t q e (Err why) r s a b = a ∙ sym b

one_insertion : (u : Usage) (t : Tree) (steps : List Step) (q : List ℕ) (e : Tree) (r s : Result Change EditRefusal) → IsElementInsertion (record { usage = u; document = t; steps = steps }) q e r → IsElementInsertion (record { usage = u; document = t; steps = steps }) q e s → r ≡ s
one_insertion u t steps q e r s a b =
    let many : length (child_elements_of b.parent) ≡ length (child_elements_of a.parent) = ap (λ (x : Tree). length (child_elements_of x)) (same_Some _ _ (sym b.there ∙ a.there)) in
    let L = IsLawfulGap steps t e q in
    let V : ℕ → Type 0 = λ j. usage.IsValidDocument u (put_in q j e t) in
    let other = subst (λ (n : ℕ). IsInsertionPlan CannotInsert (Faulty Invalid) L V (n + 1) b.gap) many b.is_chosen in
    let same : a.gap ≡ b.gap = one_plan CannotInsert (Faulty Invalid) L V (length (child_elements_of a.parent) + 1) a.gap b.gap a.is_chosen other in
    from_one_gap u t q e b.gap r s (subst (λ (g : Result ℕ EditRefusal). IsResultOfGap (λ gap. IsCheckedChange u t (Insert q gap e)) g r) same a.then) b.then

pub one_put : (u : Usage) (t : Tree) (steps : List Step) (spot : Spot) (e : Tree) (r s : Result Change EditRefusal) → IsPutPlan (record { usage = u; document = t; steps = steps }) spot e r → IsPutPlan (record { usage = u; document = t; steps = steps }) spot e s → r ≡ s
one_put u t steps (Over p) e r s a b = one_test u t (Replace p e) CannotInsert (IsLawfulReplacement steps t e p) r s a b
one_put u t steps (Under q) e r s a b = one_insertion u t steps q e r s a b
one_put u t steps Beside e r s a b = a ∙ sym b
one_put u t steps (Value p) e r s a b = absurd a

-- ---- PUT of an attribute

one_writing : (u : Usage) (t : Tree) (steps : List Step) (uri local p value : List ℕ) (name : Option Name) (r s : Result Change EditRefusal) → IsAttributeWrite (record { usage = u; document = t; steps = steps }) (record { path = p; uri = uri; local = local }) value name r → IsAttributeWrite (record { usage = u; document = t; steps = steps }) (record { path = p; uri = uri; local = local }) value name s → r ≡ s
one_writing u t steps uri local p value (Some name) r s a b = one_test u t (SetAttr p name value) CannotInsert (FindsValue steps (record { path = p; uri = uri; local = local }) (edited t (SetAttr p name value)) value) r s a b
one_writing u t steps uri local p value None r s a b = a ∙ sym b

one_value : (u : Usage) (t : Tree) (steps : List Step) (uri local p value : List ℕ) (r s : Result Change EditRefusal) → IsValuePlan (record { usage = u; document = t; steps = steps }) (record { path = p; uri = uri; local = local }) value r → IsValuePlan (record { usage = u; document = t; steps = steps }) (record { path = p; uri = uri; local = local }) value s → r ≡ s
one_value u t steps uri local p value r s a b =
    let same = same_Some _ _ (sym b.there ∙ a.there) in
    one_writing u t steps uri local p value (written_name (scope_at p t) uri local a.element.attrs) r s a.plan
    (subst (λ (x : Tree). IsAttributeWrite (record { usage = u; document = t; steps = steps }) (record { path = p; uri = uri; local = local }) value (written_name (scope_at p t) uri local x.attrs) s) same b.plan)

pub one_attr : (u : Usage) (t : Tree) (steps : List Step) (end : End) (p value : List ℕ) (r s : Result Change EditRefusal) → IsAttrPlan (record { usage = u; document = t; steps = steps }) end p value r → IsAttrPlan (record { usage = u; document = t; steps = steps }) end p value s → r ≡ s
one_attr u t steps (ends.Attribute uri local) p value r s a b = one_value u t steps uri local p value r s a b
one_attr u t steps ends.Element p value r s a b = absurd a
one_attr u t steps ends.Namespaces p value r s a b = absurd a

-- ---- DELETE

one_removal : (u : Usage) (t : Tree) (selector : Selector) (p : List ℕ) (r s : Result Change EditRefusal) → IsElementRemoval (record { usage = u; document = t; selector = selector }) p r → IsElementRemoval (record { usage = u; document = t; selector = selector }) p s → r ≡ s
one_removal u t selector [] r s a b = a ∙ sym b
one_removal u t selector (n ∷ p) r s a b = one_test u t (Remove (n ∷ p)) CannotDelete (FindsNothingAfter selector t (Remove (n ∷ p))) r s a b

one_drop : (u : Usage) (t : Tree) (selector : Selector) (p : List ℕ) (e : Tree) (uri local : List ℕ) (r s : Result Change EditRefusal) → IsAttributeRemoval (record { usage = u; document = t; selector = selector }) (record { path = p; uri = uri; local = local }) e r → IsAttributeRemoval (record { usage = u; document = t; selector = selector }) (record { path = p; uri = uri; local = local }) e s → r ≡ s
one_drop u t selector p e uri local r s a b =
    let same : b.attr ≡ a.attr = same_Some _ _ (sym b.that ∙ a.that) in
    one_test u t (DropAttr p a.attr.name) CannotDelete (FindsNothingAfter selector t (DropAttr p a.attr.name)) r s a.then
    (subst (λ (x : Attr). IsCheckedIfLawful CannotDelete (FindsNothingAfter selector t (DropAttr p x.name)) (IsCheckedChange u t (DropAttr p x.name)) s) same b.then)

one_plan_for : (u : Usage) (t : Tree) (selector : Selector) (p : List ℕ) (e : Tree) (end : End) (r s : Result Change EditRefusal) → IsDeletePlanFor (record { usage = u; document = t; selector = selector }) p e end r → IsDeletePlanFor (record { usage = u; document = t; selector = selector }) p e end s → r ≡ s
one_plan_for u t selector p e ends.Element r s a b = one_removal u t selector p r s a b
one_plan_for u t selector p e (ends.Attribute uri local) r s a b = one_drop u t selector p e uri local r s a b
one_plan_for u t selector p e ends.Namespaces r s a b = absurd a

pub one_delete : (u : Usage) (t : Tree) (selector : Selector) (r s : Result Change EditRefusal) → IsDeletePlan u t selector r → IsDeletePlan u t selector s → r ≡ s
one_delete u t selector r s (inl a) (inl b) = a.0 ∙ sym b.0
one_delete u t selector r s (inl a) (inr b) = absurd (a.1 b.0)
one_delete u t selector r s (inr a) (inl b) = absurd (b.1 a.0)
one_delete u t selector r s (inr a) (inr b) =
    let f = a.0 in
    let g = b.0 in
    let path : g.path ≡ f.path = one_path selector.steps t g.path f.path g.selects f.selects in
    let element : g.element ≡ f.element = same_Some _ _ (sym g.there ∙ ap (λ (l : List ℕ). at l t) path ∙ f.there) in
    one_plan_for u t selector f.path f.element selector.end r s a.1
    (subst (λ (x : Tree). IsDeletePlanFor (record { usage = u; document = t; selector = selector }) f.path x selector.end s) element (subst (λ (l : List ℕ). IsDeletePlanFor (record { usage = u; document = t; selector = selector }) l g.element selector.end s) path b.1))

-- ---- the edit target of a PUT

same_before : (a b : List Step) (s r : Step) → a ++ s ∷ [] ≡ b ++ r ∷ [] → a ≡ b
same_before [] [] s r h = refl
same_before [] (y ∷ []) s r h = cc
same_before [] (y ∷ z ∷ b) s r h = cc
same_before (x ∷ []) [] s r h = cc
same_before (x ∷ z ∷ a) [] s r h = cc
same_before (x ∷ a) (y ∷ b) s r h =
    let head : x ≡ y = cc in
    let rest : a ++ s ∷ [] ≡ b ++ r ∷ [] = cc in
    ap₂ (λ (h : Step) (l : List Step). h ∷ l) head (same_before a b s r rest)

one_parent : (steps : List Step) (t : Tree) (q r : List ℕ) → SelectsParent steps t q → SelectsParent steps t r → q ≡ r
one_parent steps t q r a b =
    let same = same_before a.before b.before a.step b.step (sym a.are ∙ b.are) in
    one_path b.before t q r (subst (λ (l : List Step). SelectsPath l t q) same a.selects) b.selects

alone_has_no_parent : (steps : List Step) (t : Tree) (q : List ℕ) (s : Step) → steps ≡ s ∷ [] → SelectsParent steps t q → ⊥
alone_has_no_parent steps t q s one a = subst (λ (l : List Step). SelectsPath l t q) (same_before a.before [] a.step s (sym a.are ∙ one)) a.selects

not_both : (end : End) → end ≡ ends.Element → EndsInAttribute end → ⊥
not_both end is a = let e = a.1.1 in cc

one_spot_of : (t : Tree) (selector : Selector) (a b : Spot) → IsSpotOf t selector a → IsSpotOf t selector b → a ≡ b
one_spot_of t selector (Over p) (Over r) h k = ap Over (one_path selector.steps t p r h.1 k.1)
one_spot_of t selector (Over p) (Under r) h k = absurd (k.1 p h.1)
one_spot_of t selector (Over p) Beside h k = absurd (k.1 p h.1)
one_spot_of t selector (Over p) (Value r) h k = absurd (not_both selector.end h.0 k.0)
one_spot_of t selector (Under p) (Over r) h k = absurd (h.1 r k.1)
one_spot_of t selector (Under p) (Under r) h k = ap Under (one_parent selector.steps t p r h.2 k.2)
one_spot_of t selector (Under p) Beside h k = absurd (alone_has_no_parent selector.steps t p k.2.0 k.2.1 h.2)
one_spot_of t selector (Under p) (Value r) h k = absurd (not_both selector.end h.0 k.0)
one_spot_of t selector Beside (Over r) h k = absurd (h.1 r k.1)
one_spot_of t selector Beside (Under r) h k = absurd (alone_has_no_parent selector.steps t r h.2.0 h.2.1 k.2)
one_spot_of t selector Beside Beside h k = refl
one_spot_of t selector Beside (Value r) h k = absurd (not_both selector.end h.0 k.0)
one_spot_of t selector (Value p) (Over r) h k = absurd (not_both selector.end k.0 h.0)
one_spot_of t selector (Value p) (Under r) h k = absurd (not_both selector.end k.0 h.0)
one_spot_of t selector (Value p) Beside h k = absurd (not_both selector.end k.0 h.0)
one_spot_of t selector (Value p) (Value r) h k = ap Value (one_path selector.steps t p r h.1 k.1)

longest_not_less : (steps : List Step) (t : Tree) (j k : ℕ) → IsLongestMatch steps t j → IsLongestMatch steps t k → j < k → ⊥
longest_not_less steps t j k a b lt = let s = b.selects (omega arith) in a.longest k s.0 lt b.within s.1

one_longest : (steps : List Step) (t : Tree) (j k : ℕ) → IsLongestMatch steps t j → IsLongestMatch steps t k → j ≡ k
one_longest steps t j k a b = by (cases_order j k)
  where
    by : (j ≡ k) ⊎ ((j < k) ⊎ (k < j)) → j ≡ k
    by (inl same) = same
    by (inr (inl lt)) = absurd (longest_not_less steps t j k a b lt)
    by (inr (inr lt)) = absurd (longest_not_less steps t k j b a lt)

none_of : ℕ → NoParent
none_of k = record { steps = k }

pub one_spot : (t : Tree) (selector : Selector) (r s : Result Spot NoParent) → IsSpot t selector r → IsSpot t selector s → r ≡ s
unfolding none_of
one_spot t selector (Ok a) (Ok b) h k = ap (λ (x : Spot). Ok x) (one_spot_of t selector a b h k)
one_spot t selector (Ok a) (Err n) h k = absurd (k.1 a h)
one_spot t selector (Err n) (Ok b) h k = absurd (h.1 b k)
one_spot t selector (Err n) (Err m) h k = ap (λ (x : ℕ). Err (none_of x)) (one_longest selector.steps t n.steps m.steps h.0 k.0)
