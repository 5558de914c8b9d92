-- What a planned change makes, and the plan of an equal request in the resulting document.
use Rattle.std.specs.Str.{bytes_eq}
use Rattle.std.specs.Option.{option_map_or}
use Rattle.std.proofs.Common.{◌≡◌, inl, inr, ℕ, ◌≤◌, ◌+◌, Bool, true, false, List, [], ◌∷◌, ◌++◌, length, find, slice_get, Option, Some, None, IsSome, IsTrue, option_map, option_and_then, Result, Ok, Err, refl, sym, ap, ◌∙◌, subst, arith}
use Rattle.std.specs.Prelude.{◌&&◌}
use Rattle.std.specs.Cmp.Lexicographic.{bytes_decides}
use Rattle.std.proofs.lemmas.Option.{same_Some}
use Rattle.node_select.specs.InsertionPoints.{IsInsertionPlan}
use Rattle.node_select.proofs.ListEdits.{get-insert_at}
use Rattle.doc_names.specs.declared.usages.Usage.{Usage}
use Rattle.xml_tree.specs.Tree.{Tree, at, child_elements_of, tree_of}
use Rattle.xml_names.specs.Attributes.{same_name, with_new_value, with_attr}
use Rattle.xml_names.specs.Attributes as attributes
use Rattle.xml_tree.specs.Edits.{put_in, put_kid, put_over, set_attr_at, set_attr_value}
use Rattle.xml_tree.specs.TreeScopes.{scope_at}
use Rattle.xml_names.specs.declared.names.Name.{Name}
use Rattle.xml_names.specs.declared.names.Attr.{Attr}
use Rattle.xml_names.specs.declared.names.Decl.{Decl}
use Rattle.xml_tree.proofs.PlaceLaws.{at-append, at-changed, child_elements-put}
use Rattle.node_select.specs.Selection.{FindsNode, SelectsPath, is_attr_named}
use Rattle.node_select.specs.declared.selector.Step.{Step}
use Rattle.node_select.specs.declared.selector.End.{End}
use Rattle.node_select.specs.declared.selector.End.TheVariants as ends
use Rattle.node_select.specs.declared.selector.Selector.{Selector}
use Rattle.node_select.proofs.Along.{path_there}
use Rattle.usage_docs.specs.Validation.{HasFirstFault}
use Rattle.usage_docs.specs.declared.validation.Fault.{Fault}
use Rattle.usage_docs.specs.Validity as usage
use Rattle.edit_ops.specs.Changes.{edited}
use Rattle.edit_ops.specs.declared.change.Change.{Change}
use Rattle.edit_ops.specs.declared.change.Change.TheVariants.{Insert, Replace, Remove, SetAttr, DropAttr}
use Rattle.edit_rules.specs.declared.spot.Spot.{Spot}
use Rattle.edit_rules.specs.declared.spot.Spot.TheVariants.{Over, Under, Beside, Value}
use Rattle.usage_docs.specs.declared.validation.Fault.TheVariants.{Invalid}
use Rattle.edit_rules.specs.declared.edit_refusal.EditRefusal.{EditRefusal}
use Rattle.edit_rules.specs.declared.edit_refusal.EditRefusal.TheVariants.{CannotInsert, CannotDelete, Faulty}
use Rattle.edit_rules.specs.AttributePuts.{FindsValue, IsAttrPlan, IsValuePlan, IsAttributeWrite, new_name, written_name}
use Rattle.edit_rules.specs.Deletions.{FindsNothingAfter, IsDeletePlan, IsDeletePlanFor, IsElementRemoval}
use Rattle.edit_rules.specs.LawfulInsertions.{IsLawfulGap, IsLawfulReplacement}
use Rattle.edit_rules.specs.CheckedChanges.{IsCheckedChange, IsCheckedIfLawful, change_or_fault}
use Rattle.edit_rules.specs.ElementPuts.{IsResultOfGap, IsElementInsertion, IsPutPlan}
use Rattle.edit_rules.specs.Spots.{IsSpotOf}
use Rattle.edit_rules.proofs.Places.{as_exchange, put_again}
use Rattle.edit_rules.proofs.StaysSelected.{scope_kept}

-- ---- a change that is allowed

pub record Made (lawful : Type 0) (u : Usage) (t : Tree) (change plan : Change) : Type 0 where
  pub is : plan ≡ change
  pub is_lawful : lawful
  pub faultless : HasFirstFault u (edited t change) None

same_ok : (a b : Change) → ◌≡◌ {A = Result Change EditRefusal} (Ok a) (Ok b) → a ≡ b
same_ok a b h = cc

-- an allowed change makes a document without a fault
pub judged_ok : (u : Usage) (t : Tree) (change plan : Change) → IsCheckedChange u t change (Ok plan) → (plan ≡ change) × HasFirstFault u (edited t change) None
judged_ok u t change plan h = by h.0 h.1.0 h.1.1
  where
    by : (fault : Option Fault) → HasFirstFault u (edited t change) fault → ◌≡◌ {A = Result Change EditRefusal} (Ok plan) (change_or_fault change fault) → (plan ≡ change) × HasFirstFault u (edited t change) None
    by None judged is = (same_ok plan change is, judged)
    by (Some fault) judged is = cc

pub tested_ok : (unlawful : EditRefusal) (lawful : Type 0) (u : Usage) (t : Tree) (change plan : Change) → IsCheckedIfLawful unlawful lawful (IsCheckedChange u t change) (Ok plan) → Made lawful u t change plan
tested_ok unlawful lawful u t change plan (inl h) = let z = h.0 in cc
tested_ok unlawful lawful u t change plan (inr h) = let j = judged_ok u t change plan h.1 in record { is = j.0; is_lawful = h.0; faultless = j.1 }

-- a lawful change into a document without a fault is allowed
pub answered : (unlawful : EditRefusal) (lawful : Type 0) (u : Usage) (t : Tree) (change : Change) → lawful → HasFirstFault u (edited t change) None → IsCheckedIfLawful unlawful lawful (IsCheckedChange u t change) (Ok change)
answered unlawful lawful u t change is a = inr (is, (None, (a, refl)))

-- ---- PUT of an element

-- at a path the new document has the element, and the steps select it; and the new document has
-- no fault
pub record Put (u : Usage) (t : Tree) (steps : List Step) (e : Tree) (plan : Change) : Type 0 where
  pub path : List ℕ
  pub selects : SelectsPath steps (edited t plan) path
  pub there : at path (edited t plan) ≡ Some e
  pub faultless : HasFirstFault u (edited t plan) None

over_there : (o : Option Tree) (e : Tree) → IsSome (option_map (λ (x : Tree). e) o) → option_map (λ (x : Tree). e) o ≡ Some e
over_there None e h = cc
over_there (Some x) e h = refl

put_over_is : (u : Usage) (t : Tree) (steps : List Step) (p : List ℕ) (e : Tree) (plan : Change) → Made (IsLawfulReplacement steps t e p) u t (Replace p e) plan → Put u t steps e plan
put_over_is u t steps p e plan m =
    let changed = at-changed p (λ _. e) t in
    let some = subst (λ (o : Option Tree). IsSome o) changed (path_there steps (put_over p e t) p m.is_lawful) in
    subst (λ (x : Change). Put u t steps e x) (sym m.is) (record { path = p; selects = m.is_lawful; there = changed ∙ over_there (at p t) e some; faultless = m.faultless })

in_gap : (t parent e : Tree) (q : List ℕ) (gap : ℕ) → at q t ≡ Some parent → gap ≤ length (child_elements_of parent) → at (q ++ gap ∷ []) (put_in q gap e t) ≡ Some e
in_gap t parent e q gap there le =
    at-append q (gap ∷ []) (put_in q gap e t)
    ∙ ap (option_and_then (at (gap ∷ []))) (at-changed q (put_kid gap e) t ∙ ap (option_map (put_kid gap e)) there)
    ∙ ap (option_and_then (at [])) (ap (λ (xs : List Tree). slice_get xs gap) (child_elements-put gap e parent.content le) ∙ get-insert_at (child_elements_of parent) gap e le)

put_under_is : (u : Usage) (t : Tree) (steps : List Step) (q : List ℕ) (e : Tree) (plan : Change) → IsElementInsertion (record { usage = u; document = t; steps = steps }) q e (Ok plan) → Put u t steps e plan
put_under_is u t steps q e plan h = by h.gap h.is_chosen h.then
  where
    by : (g : Result ℕ EditRefusal) → IsInsertionPlan CannotInsert (Faulty Invalid) (IsLawfulGap steps t e q) (λ j. usage.IsValidDocument u (put_in q j e t)) (length (child_elements_of h.parent) + 1) g → IsResultOfGap (λ gap. IsCheckedChange u t (Insert q gap e)) g (Ok plan) → Put u t steps e plan
    by (Err why) chosen then = let z = then in cc
    by (Ok gap) chosen then =
        let j = judged_ok u t (Insert q gap e) plan then in
        let lt = chosen.within in
        subst (λ (x : Change). Put u t steps e x) (sym j.0) (record {
          path = q ++ gap ∷ [];
          selects = chosen.is_lawful;
          there = in_gap t h.parent e q gap h.there (omega arith);
          faultless = j.1;
        })

pub put_is : (u : Usage) (t : Tree) (steps : List Step) (spot : Spot) (e : Tree) (plan : Change) → IsPutPlan (record { usage = u; document = t; steps = steps }) spot e (Ok plan) → Put u t steps e plan
put_is u t steps (Over p) e plan h = put_over_is u t steps p e plan (tested_ok CannotInsert (IsLawfulReplacement steps t e p) u t (Replace p e) plan h)
put_is u t steps (Under q) e plan h = put_under_is u t steps q e plan h
put_is u t steps Beside e plan h = cc
put_is u t steps (Value p) e plan h = absurd h

-- the second PUT: the address selects what was put, and the plan is its replacement by an equal
-- element, which leaves the document unchanged
pub put_twice : (u : Usage) (t : Tree) (steps : List Step) (e : Tree) (plan : Change) (h : Put u t steps e plan)
    → IsPutPlan (record { usage = u; document = edited t plan; steps = steps }) (Over h.path) e (Ok (Replace h.path e)) × (edited (edited t plan) (Replace h.path e) ≡ edited t plan)
put_twice u t steps e plan h =
    let new = edited t plan in
    let same : put_over h.path e new ≡ new = put_again h.path e new h.there in (
      answered CannotInsert (IsLawfulReplacement steps new e h.path) u new (Replace h.path e) (subst (λ (x : Tree). SelectsPath steps x h.path) (sym same) h.selects) (subst (λ (x : Tree). HasFirstFault u x None) (sym same) h.faultless),
      same,
    )

-- ---- PUT of an attribute

-- the attribute is written, and found with its value; and the new document has no fault
pub record Written (u : Usage) (t : Tree) (steps : List Step) (uri local p value : List ℕ) (plan : Change) : Type 0 where
  pub name : Name
  pub is : plan ≡ SetAttr p name value
  pub element : Tree
  pub there : at p t ≡ Some element
  pub is_name : written_name (scope_at p t) uri local element.attrs ≡ Some name
  pub finds : FindsValue steps (record { path = p; uri = uri; local = local }) (edited t (SetAttr p name value)) value
  pub faultless : HasFirstFault u (edited t (SetAttr p name value)) None

pub written_is : (u : Usage) (t : Tree) (steps : List Step) (uri local p value : List ℕ) (plan : Change) → IsValuePlan (record { usage = u; document = t; steps = steps }) (record { path = p; uri = uri; local = local }) value (Ok plan) → Written u t steps uri local p value plan
written_is u t steps uri local p value plan h = by (written_name (scope_at p t) uri local h.element.attrs) refl h.plan
  where
    by : (o : Option Name) → written_name (scope_at p t) uri local h.element.attrs ≡ o → IsAttributeWrite (record { usage = u; document = t; steps = steps }) (record { path = p; uri = uri; local = local }) value o (Ok plan) → Written u t steps uri local p value plan
    by None is then = let z = then in cc
    by (Some name) is then =
        let m = tested_ok CannotInsert (FindsValue steps (record { path = p; uri = uri; local = local }) (edited t (SetAttr p name value)) value) u t (SetAttr p name value) plan then in
        record { name = name; is = m.is; element = h.element; there = h.there; is_name = is; finds = m.is_lawful; faultless = m.faultless }

-- ---- an attribute that is written twice

abbrev attr_of : Name → List ℕ → Attr
attr_of name value = record { name = name; value = value }

pub named_alike : (n : Name) → IsTrue (same_name n n)
named_alike n = both (bytes_eq n.prefix n.prefix) (bytes_eq n.local n.local) ((bytes_decides n.prefix n.prefix).1 refl) ((bytes_decides n.local n.local).1 refl)
  where
    both : (a b : Bool) → IsTrue a → IsTrue b → IsTrue (a && b)
    both a b p q = rw p q

pub alike_named : (m n : Name) → IsTrue (same_name m n) → m ≡ n
alike_named m n h = by (bytes_eq m.prefix n.prefix) refl (bytes_eq m.local n.local) refl
  where
    by : (a : Bool) → bytes_eq m.prefix n.prefix ≡ a → (b : Bool) → bytes_eq m.local n.local ≡ b → m ≡ n
    by true p true q =
        let same_prefix : m.prefix ≡ n.prefix = (bytes_decides m.prefix n.prefix).0 p in
        let same_local : m.local ≡ n.local = (bytes_decides m.local n.local).0 q in
        λ i. record { prefix = same_prefix i; local = same_local i }
    by true p false q = let z : (true && false) ≡ true = sym (ap (λ (a : Bool). a && false) p ∙ refl) ∙ sym (ap (λ (b : Bool). bytes_eq m.prefix n.prefix && b) q) ∙ h in cc
    by false p b q = let z : (false && bytes_eq m.local n.local) ≡ true = sym (ap (λ (a : Bool). a && bytes_eq m.local n.local) p) ∙ h in cc

-- the attribute already has its value
with_twice : (n : Name) (v : List ℕ) (ats : List Attr) → with_attr n v (with_attr n v ats) ≡ with_attr n v ats
with_twice n v [] = rw (named_alike n) refl
with_twice n v (x ∷ ats) = by (attributes.has_qname n x) refl (with_twice n v ats)
  where
    by : (b : Bool) → attributes.has_qname n x ≡ b → with_attr n v (with_attr n v ats) ≡ with_attr n v ats → with_attr n v (with_attr n v (x ∷ ats)) ≡ with_attr n v (x ∷ ats)
    by true e rest = rw e (rw e refl)
    by false e rest = rw e (rw e (ap (λ (l : List Attr). x ∷ l) rest))

pub found_passes : {A : Type 0} (p : A → Bool) (xs : List A) (x : A) → find p xs ≡ Some x → IsTrue (p x)
found_passes p [] x h = cc
found_passes p (y ∷ xs) x h = by (p y) refl (found_passes p xs x)
  where
    by : (b : Bool) → p y ≡ b → (find p xs ≡ Some x → IsTrue (p x)) → IsTrue (p x)
    by true e rest = let same : y ≡ x = same_Some y x (rw e at h) in ap p (sym same) ∙ e
    by false e rest = rest (rw e at h)

module _ (c : List (List Decl)) (uri local : List ℕ) (n : Name) (v : List ℕ) where
  abbrev means : Attr → Bool
  means = is_attr_named c uri local

  means_by_name : (a b : Attr) → a.name ≡ b.name → means a ≡ means b
  means_by_name a b h = ap (λ (m : Name). means (attr_of m [])) h

  -- an existing one keeps its name
  kept_found : (ats : List Attr) (a : Attr) → find means ats ≡ Some a → a.name ≡ n → (b : Attr) × (find means (with_attr n v ats) ≡ Some b) × (b.name ≡ n)
  kept_found [] a h is = cc
  kept_found (x ∷ ats) a h is = by (means x) refl (attributes.has_qname n x) refl (kept_found ats a)
    where
      by : (b : Bool) → means x ≡ b → (d : Bool) → attributes.has_qname n x ≡ d → (find means ats ≡ Some a → a.name ≡ n → (b : Attr) × (find means (with_attr n v ats) ≡ Some b) × (b.name ≡ n)) → (b : Attr) × (find means (with_attr n v (x ∷ ats)) ≡ Some b) × (b.name ≡ n)
      by true e true d rest = (with_new_value v x, rw d (rw e refl), alike_named x.name n d)
      by true e false d rest =
          let same : x ≡ a = same_Some x a (rw e at h) in
          let z : IsTrue (same_name x.name n) = subst (λ (m : Name). IsTrue (same_name x.name m)) (ap (λ (y : Attr). y.name) same ∙ is) (named_alike x.name) in
          let w : true ≡ false = sym z ∙ d in cc
      by false e true d rest =
          let at_a = found_passes means ats a (rw e at h) in
          let z : means x ≡ means a = means_by_name x a (alike_named x.name n d ∙ sym is) in
          let w : false ≡ true = sym e ∙ z ∙ at_a in cc
      by false e false d rest =
          let r = rest (rw e at h) is in
          (r.0, rw d (rw e r.1), r.2)

  -- a new one is last
  new_found : (ats : List Attr) (b : Attr) → find means ats ≡ None → find means (with_attr n v ats) ≡ Some b → b.name ≡ n
  new_found [] b none h = by (means (attr_of n v)) refl
    where
      by : (d : Bool) → means (attr_of n v) ≡ d → b.name ≡ n
      by true e = let same : attr_of n v ≡ b = same_Some (attr_of n v) b (rw e at h) in ap (λ (y : Attr). y.name) (sym same)
      by false e = let z : None ≡ Some b = rw e at h in cc
  new_found (x ∷ ats) b none h = by (means x) refl (attributes.has_qname n x) refl (new_found ats b)
    where
      by : (p : Bool) → means x ≡ p → (d : Bool) → attributes.has_qname n x ≡ d → (find means ats ≡ None → find means (with_attr n v ats) ≡ Some b → b.name ≡ n) → b.name ≡ n
      by true e d e' rest = let z : Some x ≡ None = rw e at none in cc
      by false e true d rest =
          let none' : find means ats ≡ None = rw e at none in
          let h' : find means (with_new_value v x ∷ ats) ≡ Some b = rw d at h in
          let h'' : find means ats ≡ Some b = rw e at h' in
          let z : None ≡ Some b = sym none' ∙ h'' in cc
      by false e false d rest =
          let none' : find means ats ≡ None = rw e at none in
          let h' : find means (x ∷ with_attr n v ats) ≡ Some b = rw d at h in
          rest none' (rw e at h')

  -- so the name of the written attribute is the same the second time
  name_twice : (ats : List Attr) (b : Attr) → written_name c uri local ats ≡ Some n → find means (with_attr n v ats) ≡ Some b → written_name c uri local (with_attr n v ats) ≡ Some n
  name_twice ats b is there = by (find means ats) refl
    where
      by : (o : Option Attr) → find means ats ≡ o → written_name c uri local (with_attr n v ats) ≡ Some n
      by (Some a) e =
          let named : a.name ≡ n = same_Some a.name n (sym (ap (λ (o : Option Attr). option_map_or (λ (a : Attr). Some a.name) o (new_name c uri local)) e) ∙ is) in
          let r = kept_found ats a e named in
          ap (λ (o : Option Attr). option_map_or (λ (a : Attr). Some a.name) o (new_name c uri local)) r.1 ∙ ap (λ (m : Name). Some m) r.2
      by None e = ap (λ (o : Option Attr). option_map_or (λ (a : Attr). Some a.name) o (new_name c uri local)) there ∙ ap (λ (m : Name). Some m) (new_found ats b e there)

some_of : {A B : Type 0} (f : A → B) (o : Option A) (y : B) → option_map f o ≡ Some y → (x : A) × (o ≡ Some x)
some_of f None y h = cc
some_of f (Some x) y h = (x, refl)

-- the second PUT: the attribute is found with its value, and the plan is to write the same value,
-- which leaves the document unchanged
pub written_twice : (u : Usage) (t : Tree) (steps : List Step) (uri local p value : List ℕ) (plan : Change) (h : Written u t steps uri local p value plan)
    → IsValuePlan (record { usage = u; document = set_attr_at p h.name value t; steps = steps }) (record { path = p; uri = uri; local = local }) value (Ok (SetAttr p h.name value)) × (set_attr_at p h.name value (set_attr_at p h.name value t) ≡ set_attr_at p h.name value t)
written_twice u t steps uri local p value plan h =
    let n = h.name in
    let new = set_attr_at p n value t in
    let made = set_attr_value n value h.element in
    let there : at p new ≡ Some made = at-changed p (set_attr_value n value) t ∙ ap (option_map (set_attr_value n value)) h.there in
    let same_element : h.finds.element ≡ made = same_Some _ _ (sym h.finds.there ∙ there) in
    let scope : scope_at p new ≡ scope_at p t = scope_kept p (set_attr_value n value) (λ e. refl) t in
    let has = subst (λ (x : Tree). option_map (λ (a : Attr). a.value) (find (is_attr_named (scope_at p new) uri local) x.attrs) ≡ Some value) same_element h.finds.has in
    let b = some_of (λ (a : Attr). a.value) (find (is_attr_named (scope_at p new) uri local) made.attrs) value has in
    let b_there = subst (λ c. find (is_attr_named c uri local) made.attrs ≡ Some b.0) scope b.1 in
    let name_is = name_twice (scope_at p t) uri local n value h.element.attrs b.0 h.is_name b_there in
    let name_new : written_name (scope_at p new) uri local made.attrs ≡ Some n = ap (λ c. written_name c uri local made.attrs) scope ∙ name_is in
    let stays_element : set_attr_value n value made ≡ made = ap (λ (l : List Attr). tree_of made.name made.decls l made.content) (with_twice n value h.element.attrs) in
    let stays : set_attr_at p n value new ≡ new = as_exchange p (set_attr_value n value) made new there ∙ ap (λ (x : Tree). put_over p x new) stays_element ∙ put_again p made new there in (
      record {
        element = made;
        there = there;
        plan =
            subst (λ (o : Option Name). IsAttributeWrite (record { usage = u; document = new; steps = steps }) (record { path = p; uri = uri; local = local }) value o (Ok (SetAttr p n value))) (sym name_new)
            (answered CannotInsert (FindsValue steps (record { path = p; uri = uri; local = local }) (edited new (SetAttr p n value)) value) u new (SetAttr p n value)
            (subst (λ (x : Tree). FindsValue steps (record { path = p; uri = uri; local = local }) x value) (sym stays) h.finds)
            (subst (λ (x : Tree). HasFirstFault u x None) (sym stays) h.faultless));
      },
      stays,
    )

-- ---- DELETE

-- the address finds nothing in the new document, which has no fault
pub record Deleted (u : Usage) (t : Tree) (selector : Selector) (plan : Change) : Type 0 where
  pub finds_nothing : FindsNode (edited t plan) selector → ⊥
  pub faultless : HasFirstFault u (edited t plan) None

deleted_by : (u : Usage) (t : Tree) (selector : Selector) (change plan : Change) → Made (FindsNothingAfter selector t change) u t change plan → Deleted u t selector plan
deleted_by u t selector change plan m = subst (λ (x : Change). Deleted u t selector x) (sym m.is) (record { finds_nothing = m.is_lawful; faultless = m.faultless })

removed_is : (u : Usage) (t : Tree) (selector : Selector) (p : List ℕ) (plan : Change) → IsElementRemoval (record { usage = u; document = t; selector = selector }) p (Ok plan) → Deleted u t selector plan
removed_is u t selector [] plan h = cc
removed_is u t selector (n ∷ p) plan h = deleted_by u t selector (Remove (n ∷ p)) plan (tested_ok CannotDelete (FindsNothingAfter selector t (Remove (n ∷ p))) u t (Remove (n ∷ p)) plan h)

plan_for_is : (u : Usage) (t : Tree) (selector : Selector) (p : List ℕ) (e : Tree) (end : End) (plan : Change) → IsDeletePlanFor (record { usage = u; document = t; selector = selector }) p e end (Ok plan) → Deleted u t selector plan
plan_for_is u t selector p e ends.Element plan h = removed_is u t selector p plan h
plan_for_is u t selector p e (ends.Attribute uri local) plan h =
    let change = DropAttr p h.attr.name in
    deleted_by u t selector change plan (tested_ok CannotDelete (FindsNothingAfter selector t change) u t change plan h.then)
plan_for_is u t selector p e ends.Namespaces plan h = absurd h

pub deleted_is : (u : Usage) (t : Tree) (selector : Selector) (plan : Change) → IsDeletePlan u t selector (Ok plan) → Deleted u t selector plan
deleted_is u t selector plan (inl h) = let z = h.0 in cc
deleted_is u t selector plan (inr h) = plan_for_is u t selector h.0.path h.0.element selector.end plan h.1

-- ---- these facts in the form of the laws

pub written_finds : (u : Usage) (t : Tree) (steps : List Step) (uri local p value : List ℕ) (plan : Change) → Written u t steps uri local p value plan → FindsValue steps (record { path = p; uri = uri; local = local }) (edited t plan) value
written_finds u t steps uri local p value plan h = subst (λ (x : Change). FindsValue steps (record { path = p; uri = uri; local = local }) (edited t x) value) (sym h.is) h.finds

pub written_change : (u : Usage) (t : Tree) (steps : List Step) (uri local p value : List ℕ) (plan : Change) → Written u t steps uri local p value plan → HasFirstFault u (edited t plan) None
written_change u t steps uri local p value plan h = subst (λ (x : Change). HasFirstFault u (edited t x) None) (sym h.is) h.faultless

pub written_again : (u : Usage) (t : Tree) (selector : Selector) (uri local p value : List ℕ) (plan : Change) → selector.end ≡ ends.Attribute uri local → Written u t selector.steps uri local p value plan
    → IsSpotOf (edited t plan) selector (Value p) × IsAttrPlan (record { usage = u; document = edited t plan; steps = selector.steps }) (ends.Attribute uri local) p value (Ok plan) × (edited (edited t plan) plan ≡ edited t plan)
written_again u t selector uri local p value plan ends_so h =
    let w = written_twice u t selector.steps uri local p value plan h in
    subst (λ (x : Change). IsSpotOf (edited t x) selector (Value p) × IsAttrPlan (record { usage = u; document = edited t x; steps = selector.steps }) (ends.Attribute uri local) p value (Ok x) × (edited (edited t x) x ≡ edited t x)) (sym h.is)
    (((uri, (local, ends_so)), h.finds.selects), w.0, w.1)
