-- A plan decided from the parent of a selected element is the plan of the whole document.
use Rattle.std.proofs.Common.{◌≡◌, ◌↔◌, inl, inr, ◌-◌, ◌<◌, ◌≤◌, ℕ, List, [], ◌∷◌, ◌++◌, length, get_or, take, Option, Some, None, IsSome, option_and_then, Result, remove, slice_get, refl, sym, ap, ◌∙◌, subst, arith}
use Rattle.std.proofs.lemmas.Option.{same_Some}
use Rattle.doc_names.specs.declared.usages.Usage.{Usage}
use Rattle.xml_tree.specs.Tree.{Tree, at, child_elements_of}
use Rattle.xml_tree.specs.Edits.{cut_out, parent_path, last_number, put_over, take_in}
use Rattle.xml_tree.specs.TreeScopes.{scope_at, inside}
use Rattle.xml_tree.proofs.PlaceLaws.{at-append}
use Rattle.xml_tree.proofs.TreeScopeLemmas.{scope_at-below}
use Rattle.node_select.specs.declared.selector.Step.{Step}
use Rattle.node_select.specs.declared.selector.End.TheVariants as ends
use Rattle.node_select.specs.declared.selector.Selector.{Selector}
use Rattle.node_select.specs.Selection.{SelectsAmong, SelectsChild, SelectsPath, FindsNode, has_end}
use Rattle.node_select.proofs.Along.{last_step_to, one_path, path_there}
use Rattle.usage_docs.specs.declared.schema_table.ElementKind.{ElementKind}
use Rattle.usage_docs.specs.declared.validation.Fault.TheVariants.{Invalid}
use Rattle.usage_docs.specs.Validation.{HasFirstFault}
use Rattle.usage_docs.specs.SchemaTable.{Scope}
use Rattle.usage_docs.specs.UniqueKeys.{HasUniqueKeys}
use Rattle.usage_docs.specs.ReferenceForms.{MeetsConstraints}
use Rattle.usage_docs.specs.Validity.{IsValidDocument as IsValid}
use Rattle.edit_ops.specs.declared.change.Change.{Change}
use Rattle.edit_ops.specs.declared.change.Change.TheVariants.{Remove, Replace}
use Rattle.edit_rules.specs.declared.edit_refusal.EditRefusal.{EditRefusal}
use Rattle.edit_rules.specs.declared.edit_refusal.EditRefusal.TheVariants.{CannotInsert, CannotDelete}
use Rattle.edit_rules.specs.Deletions.{FindsNothingAfter, IsDeletePlan, IsDeletePlanFor, IsElementRemoval}
use Rattle.usage_docs.specs.ElementKinds.{kind_at}
use Rattle.edit_rules.specs.LawfulInsertions.{IsLawfulReplacement}
use Rattle.edit_rules.specs.CheckedChanges.{IsCheckedChange, IsCheckedIfLawful}
use Rattle.edit_rules.proofs.ClashesAt.{unique_there}
use Rattle.edit_rules.proofs.ReplacedElements.{first_over, foreign_over, formed_over}
use Rattle.edit_rules.proofs.RemovedElements.{formed_without, unique_without, still_selected}
use Rattle.edit_rules.proofs.StaysSelected.{lawful_over}
use Rattle.edit_rules.proofs.ValidInside.{valid_over, valid_without}
use Rattle.edit_plans.specs.inner.ChildChangeResults.{HasFormedReferences, IsReplacementResult, IsRemovalResult, IsSelectedChild, HasNoClash}
use Rattle.edit_plans.specs.inner.ChangeResults.{IsResultIfLawful, allowed_change}
use Rattle.edit_plans.proofs.ParentAnswers.{judged_from, made_tested}
use Rattle.edit_plans.proofs.PlanUnder.{last_step_is}
use Rattle.edit_plans.proofs.SpotLemmas.{parts}

-- ---- the parent of a selected element

no_deeper : (c : Scope) (xs : List Tree) (q : List ℕ) (j : ℕ) → SelectsAmong c xs [] (q ++ j ∷ []) → ⊥
no_deeper c xs [] j h = h
no_deeper c xs (n ∷ q) j h = h

not_below : (s : Step) (t : Tree) (q : List ℕ) (j : ℕ) → SelectsPath (s ∷ []) t (q ++ j ∷ []) → ⊥
not_below s t q j h = no_deeper (inside [] h.1.0) (child_elements_of h.1.0) q j h.1.2

-- the steps before the last one are not empty, and the parent exists with the selected child
pub record HasParent (t : Tree) (all before : List Step) (s : Step) (q : List ℕ) (j : ℕ) : Type 0 where
  pub first : Step
  pub steps : List Step
  pub are : all ≡ first ∷ (steps ++ s ∷ [])
  pub select : SelectsPath (first ∷ steps) t q
  pub parent : Tree
  pub there : at q t ≡ Some parent
  pub selects : SelectsChild (scope_at q t) s (child_elements_of parent) j

pub parent_of : (t : Tree) (all before : List Step) (s : Step) (q : List ℕ) (j : ℕ) → all ≡ before ++ s ∷ [] → SelectsPath all t (q ++ j ∷ []) → HasParent t all before s q j
parent_of t all [] s q j are h = absurd (not_below s t q j (subst (λ (l : List Step). SelectsPath l t (q ++ j ∷ [])) are h))
parent_of t all (first ∷ steps) s q j are h =
    let l = last_step_to first steps s t q j (subst (λ (l : List Step). SelectsPath l t (q ++ j ∷ [])) are h) in record {
      first = first;
      steps = steps;
      are = are;
      select = l.0;
      parent = l.1.element;
      there = l.1.there;
      selects = subst (λ (d : Scope). SelectsChild d s (child_elements_of l.1.element) j) (sym (scope_at-below q t)) l.1.selects;
    }

-- the children of an element of a document with unique keys don't clash
pub none_clash : (u : Usage) (t parent : Tree) (q : List ℕ) → HasUniqueKeys u t → at q t ≡ Some parent → HasNoClash (kind_at u t q) (scope_at q t) parent
none_clash u t parent q unique there kind is r key h = unique_there u t parent q kind there is unique r key h

-- a selected child exists
pub child_at : (t parent child_element : Tree) (q : List ℕ) (j : ℕ) → at q t ≡ Some parent → slice_get (child_elements_of parent) j ≡ Some child_element → at (q ++ j ∷ []) t ≡ Some child_element
child_at t parent child_element q j there is = at-append q (j ∷ []) t ∙ ap (option_and_then (at (j ∷ []))) there ∙ ap (option_and_then (at [])) is

-- ---- a replacement

module _ (u : Usage) (t new : Tree) (all before : List Step) (s : Step) (q : List ℕ) (j : ℕ) (p : HasParent t all before s q j) (faultless : HasFirstFault u t None) where
  abbrev row : Option ElementKind
  row = kind_at u t q

  abbrev c : Scope
  c = scope_at q t

  abbrev after : Tree
  after = put_over (q ++ j ∷ []) new t

  abbrev child_element : Tree
  child_element = p.selects.this.child_element

  pub exchange_is : (r : Result ℕ EditRefusal) → IsReplacementResult (record { kind = row; scope = c; step = s; element = p.parent }) j new q r → SelectsPath all t (q ++ j ∷ []) → IsResultIfLawful CannotInsert (IsLawfulReplacement all t new (q ++ j ∷ [])) u after r
  exchange_is r h sel = by (subst (λ (l : List Step). SelectsPath l t (q ++ j ∷ [])) p.are sel) h
    where
      by : SelectsPath (p.first ∷ (p.steps ++ s ∷ [])) t (q ++ j ∷ []) → IsReplacementResult (record { kind = row; scope = c; step = s; element = p.parent }) j new q r → IsResultIfLawful CannotInsert (IsLawfulReplacement all t new (q ++ j ∷ [])) u after r
      by sel' h' =
          let lawful = lawful_over p.first p.steps s t new q j sel' in
          let to : IsLawfulReplacement all t new (q ++ j ∷ []) → IsLawfulReplacement (p.first ∷ (p.steps ++ s ∷ [])) t new (q ++ j ∷ []) = λ l. subst (λ (x : List Step). IsLawfulReplacement x t new (q ++ j ∷ [])) p.are l in
          let from : IsLawfulReplacement (p.first ∷ (p.steps ++ s ∷ [])) t new (q ++ j ∷ []) → IsLawfulReplacement all t new (q ++ j ∷ []) = λ l. subst (λ (x : List Step). IsLawfulReplacement x t new (q ++ j ∷ [])) (sym p.are) l in
          let valid = valid_over u t p.parent child_element new q j p.there p.selects.this.there faultless.0 in
          elim h' [
            | inl x ↦ inl (x.0, λ l. x.1 (lawful.0 (to l)))
            | inr (inl x) ↦ inr (from (lawful.1 x.1), (Some Invalid, ((λ v. x.2 (valid.0 v)), x.0)))
            | inr (inr x) ↦ inr (
              from (lawful.1 x.0),
              judged_from (HasFormedReferences row c new) row c (remove (child_elements_of p.parent) j) new q j u after r (valid.1 x.1) (formed_over u t p.parent child_element new q j p.there p.selects.this.there faultless.1)
                  (λ kind is found. (first_over u t p.parent child_element new q j p.there p.selects.this.there faultless.2 kind is found).0) (foreign_over u t p.parent child_element new q j p.there p.selects.this.there faultless.2) x.2,
            )
          ]

-- ---- a removal

front_of : (q : List ℕ) (j : ℕ) → parent_path (q ++ j ∷ []) ≡ q
front_of [] j = refl
front_of (n ∷ []) j = refl
front_of (n ∷ m ∷ q) j = ap (λ (l : List ℕ). n ∷ l) (front_of (m ∷ q) j)

final_of : (q : List ℕ) (j : ℕ) → last_number (q ++ j ∷ []) ≡ j
final_of [] j = refl
final_of (n ∷ []) j = refl
final_of (n ∷ m ∷ q) j = final_of (m ∷ q) j

taken_out : (q : List ℕ) (j : ℕ) (t : Tree) → cut_out (q ++ j ∷ []) t ≡ take_in q j t
taken_out q j t = ap (λ (p : List ℕ). take_in p (last_number (q ++ j ∷ [])) t) (front_of q j) ∙ ap (λ (i : ℕ). take_in q i t) (final_of q j)

found_some : (t : Tree) (selector : Selector) (p : List ℕ) → selector.end ≡ ends.Element → SelectsPath selector.steps t p → FindsNode t selector
found_some t selector p ends_so sel = by (at p t) refl (path_there selector.steps t p sel)
  where
    by : (o : Option Tree) → at p t ≡ o → IsSome o → FindsNode t selector
    by None is h = cc
    by (Some e) is h = record { path = p; element = e; selects = sel; there = is; has = ap (λ x. has_end x (scope_at p t) e) ends_so }

module _ (u : Usage) (t : Tree) (selector : Selector) (before : List Step) (s : Step) (q : List ℕ) (j : ℕ) (p : HasParent t selector.steps before s q j) (ends_so : selector.end ≡ ends.Element) (faultless : HasFirstFault u t None) where
  abbrev Still : Type 0
  Still = (i : ℕ) × SelectsChild (scope_at q t) s (remove (child_elements_of p.parent) j) i

  still_finds : Still → FindsNode (cut_out (q ++ j ∷ []) t) selector
  still_finds h =
      let x = (still_selected p.first p.steps s t p.parent q j p.select p.there).1 h in
      let y = subst (λ (z : Tree). SelectsPath (p.first ∷ (p.steps ++ s ∷ [])) z x.0) (sym (taken_out q j t)) x.1 in
      found_some (cut_out (q ++ j ∷ []) t) selector x.0 ends_so (subst (λ (l : List Step). SelectsPath l (cut_out (q ++ j ∷ []) t) x.0) (sym p.are) y)

  found_still : FindsNode (cut_out (q ++ j ∷ []) t) selector → Still
  found_still f =
      let x = subst (λ (l : List Step). SelectsPath l (cut_out (q ++ j ∷ []) t) f.path) p.are f.selects in
      (still_selected p.first p.steps s t p.parent q j p.select p.there).0 (f.path, subst (λ (z : Tree). SelectsPath (p.first ∷ (p.steps ++ s ∷ [])) z f.path) (taken_out q j t) x)

  pub removal_is : (r : Result ℕ EditRefusal) → IsRemovalResult (record { kind = kind_at u t q; scope = scope_at q t; step = s; element = p.parent }) j r → IsResultIfLawful CannotDelete (FindsNothingAfter selector t (Remove (q ++ j ∷ []))) u (cut_out (q ++ j ∷ []) t) r
  removal_is r (inl h) = inl (h.0, λ nothing. nothing (still_finds h.1))
  removal_is r (inr (inl h)) =
      inr ((λ f. h.1 (found_still f)), (Some Invalid, ((λ v. h.2 ((valid_without u t p.parent p.selects.this.child_element q j p.there p.selects.this.there faultless.0).0 (subst (λ (z : Tree). IsValid u z) (taken_out q j t) v))), h.0)))
  removal_is r (inr (inr h)) = inr (
    (λ f. h.1 (found_still f)),
    (
      None,
      (
        (
          subst (λ (z : Tree). IsValid u z) (sym (taken_out q j t)) ((valid_without u t p.parent p.selects.this.child_element q j p.there p.selects.this.there faultless.0).1 h.2),
          subst (λ (z : Tree). MeetsConstraints u z) (sym (taken_out q j t)) (formed_without u t p.parent q j p.there faultless.1),
          subst (λ (z : Tree). HasUniqueKeys u z) (sym (taken_out q j t)) (unique_without u t p.parent q j p.there faultless.2),
        ),
        (j, h.0),
      ),
    ),
  )

removal_at : (u : Usage) (t : Tree) (selector : Selector) (q : List ℕ) (j : ℕ) (result : Result Change EditRefusal)
    → IsCheckedIfLawful CannotDelete (FindsNothingAfter selector t (Remove (q ++ j ∷ []))) (IsCheckedChange u t (Remove (q ++ j ∷ []))) result → IsElementRemoval (record { usage = u; document = t; selector = selector }) (q ++ j ∷ []) result
removal_at u t selector [] j result h = h
removal_at u t selector (n ∷ q) j result h = h

-- the plan for a path is the plan for what is found there
pub delete_by : (u : Usage) (t : Tree) (selector : Selector) (p : List ℕ) (result : Result Change EditRefusal) → selector.end ≡ ends.Element → SelectsPath selector.steps t p → IsElementRemoval (record { usage = u; document = t; selector = selector }) p result → IsDeletePlan u t selector result
delete_by u t selector p result ends_so sel h =
    let f = found_some t selector p ends_so sel in
    inr (f, subst (λ e. IsDeletePlanFor (record { usage = u; document = t; selector = selector }) f.path f.element e result) (sym ends_so) (by_path f h))
  where
    by_path : (f : FindsNode t selector) → IsElementRemoval (record { usage = u; document = t; selector = selector }) p result → IsElementRemoval (record { usage = u; document = t; selector = selector }) f.path result
    by_path f h' = subst (λ (x : List ℕ). IsElementRemoval (record { usage = u; document = t; selector = selector }) x result) (one_path selector.steps t p f.path sel f.selects) h'

pub removal_plan : (u : Usage) (t : Tree) (selector : Selector) (q : List ℕ) (j : ℕ) (result : Result Change EditRefusal) → selector.end ≡ ends.Element → SelectsPath selector.steps t (q ++ j ∷ [])
    → IsCheckedIfLawful CannotDelete (FindsNothingAfter selector t (Remove (q ++ j ∷ []))) (IsCheckedChange u t (Remove (q ++ j ∷ []))) result → IsDeletePlan u t selector result
removal_plan u t selector q j result ends_so sel h = delete_by u t selector (q ++ j ∷ []) result ends_so sel (removal_at u t selector q j result h)

-- ---- as the code finds them

-- steps that end with one
pub ends_with : (steps lent : List Step) (item : Step) → lent ≡ steps → 1 ≤ length lent → item ≡ get_or lent (length lent - 1) item → (before : List Step) × (steps ≡ before ++ item ∷ [])
ends_with steps lent item same le is =
    let r = parts lent (length lent - 1) (omega arith) in
    let e : item ≡ r.0 = is ∙ last_step_is lent (take (length lent - 1) lent) r.0 item (length lent - 1) r.1 (omega arith) in
    (take (length lent - 1) lent, sym same ∙ r.1 ∙ ap (λ (x : Step). take (length lent - 1) lent ++ x ∷ []) (sym e))

some_none : {A : Type 0} (o : Option A) → IsSome o → o ≡ None → ⊥
some_none None h none = cc
some_none (Some x) h none = cc

-- the path of the root
pub empty_path : {A : Type 0} (o : Option A) (p : List ℕ) → IsSome o ↔ (0 < length p) → o ≡ None → p ≡ []
empty_path o [] below none = refl
empty_path o (n ∷ p) below none = absurd (some_none o (below.1 (omega arith)) none)

some_there : (t parent : Tree) (q : List ℕ) → at q t ≡ Some parent → IsSome (at q t)
some_there t parent q there = subst (λ (o : Option Tree). IsSome o) (sym there) refl

-- the parent of a selected element exists, and the last step selects its child
pub parent_there : (t : Tree) (all before : List Step) (s : Step) (q : List ℕ) (j : ℕ) → HasParent t all before s q j → IsSome (at q t)
parent_there t all before s q j p = some_there t p.parent q p.there

pub may_select : (u : Usage) (t : Tree) (all before : List Step) (s : Step) (q : List ℕ) (j : ℕ) → HasParent t all before s q j → HasUniqueKeys u t → (parent : Tree) → at q t ≡ Some parent → IsSelectedChild (record { kind = kind_at u t q; scope = scope_at q t; step = s; element = parent }) j
may_select u t all before s q j p unique parent there =
    (none_clash u t parent q unique there, subst (λ (x : Tree). SelectsChild (scope_at q t) s (child_elements_of x) j) (same_Some p.parent parent (sym p.there ∙ there)) p.selects)

-- ---- by the result at the parent

pub over_by : (u : Usage) (t new : Tree) (all before : List Step) (s : Step) (q : List ℕ) (j : ℕ) (p : HasParent t all before s q j) → HasFirstFault u t None → SelectsPath all t (q ++ j ∷ []) → (found : Result ℕ EditRefusal) (result : Result Change EditRefusal)
    → ((parent : Tree) → at q t ≡ Some parent → IsReplacementResult (record { kind = kind_at u t q; scope = scope_at q t; step = s; element = parent }) j new q found) → result ≡ allowed_change (Replace (q ++ j ∷ []) new) found
    → IsCheckedIfLawful CannotInsert (IsLawfulReplacement all t new (q ++ j ∷ [])) (IsCheckedChange u t (Replace (q ++ j ∷ []) new)) result
over_by u t new all before s q j p faultless sel found result h is =
    let change = Replace (q ++ j ∷ []) new in
    let lawful = IsLawfulReplacement all t new (q ++ j ∷ []) in
    subst (λ (r : Result Change EditRefusal). IsCheckedIfLawful CannotInsert lawful (IsCheckedChange u t change) r) (sym is)
    (made_tested CannotInsert lawful u t change found (exchange_is u t new all before s q j p faultless found (h p.parent p.there) sel))

pub removal_by : (u : Usage) (t : Tree) (selector : Selector) (before : List Step) (s : Step) (q : List ℕ) (j : ℕ) (p : HasParent t selector.steps before s q j) → selector.end ≡ ends.Element → HasFirstFault u t None → SelectsPath selector.steps t (q ++ j ∷ []) → (found : Result ℕ EditRefusal) (result : Result Change EditRefusal)
    → ((parent : Tree) → at q t ≡ Some parent → IsRemovalResult (record { kind = kind_at u t q; scope = scope_at q t; step = s; element = parent }) j found) → result ≡ allowed_change (Remove (q ++ j ∷ [])) found
    → IsDeletePlan u t selector result
removal_by u t selector before s q j p ends_so faultless sel found result h is =
    let change = Remove (q ++ j ∷ []) in
    let nothing = FindsNothingAfter selector t change in
    let tested = made_tested CannotDelete nothing u t change found (removal_is u t selector before s q j p ends_so faultless found (h p.parent p.there)) in
    subst (λ (r : Result Change EditRefusal). IsDeletePlan u t selector r) (sym is) (removal_plan u t selector q j (allowed_change change found) ends_so sel tested)
