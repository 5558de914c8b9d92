-- The edit targets of a selector, by how far its steps select.
use Rattle.std.specs.Prelude.{is_some, not}
use Rattle.std.proofs.Common.{◌≡◌, ◌⊎◌, inl, inr, ℕ, zero, suc, ◌<◌, ◌≤◌, ◌+◌, ◌-◌, Bool, true, false, IsTrue, List, [], ◌∷◌, ◌++◌, length, length-append, take, Option, None, Some, refl, sym, ap, ◌∙◌, subst, arith}
use Rattle.std.proofs.lemmas.Bool.{cases_lt}
use Rattle.xml_tree.specs.Tree.{Tree}
use Rattle.node_select.specs.Selection.{IsLongestMatch, SelectsPath, selected_element_path}
use Rattle.node_select.proofs.ReachLemmas.{path_is}
use Rattle.std.proofs.lemmas.Option.{none-some}
use Rattle.node_select.specs.declared.selector.Step.{Step}
use Rattle.node_select.specs.declared.selector.End.{End}
use Rattle.node_select.specs.declared.selector.End.TheVariants as ends
use Rattle.node_select.specs.declared.selector.Selector.{Selector}
use Rattle.edit_rules.specs.declared.spot.Spot.{Spot}
use Rattle.edit_rules.specs.declared.spot.Spot.TheVariants.{Over, Under, Beside, Value}
use Rattle.edit_rules.specs.Spots.{EndsInAttribute, IsSpotOf, SelectNothing, SelectsParent}
use Rattle.node_select.specs.declared.descent.Reached.{Reached}
use Rattle.edit_plans.specs.inner.LongestMatches.{ReachesElement}

whole : {A : Type 0} (xs : List A) → take (length xs) xs ≡ xs
whole [] = refl
whole (x ∷ xs) = ap (λ l. x ∷ l) (whole xs)

front_whole : {A : Type 0} (xs : List A) (y : A) → take (length xs) (xs ++ y ∷ []) ≡ xs
front_whole [] y = refl
front_whole (x ∷ xs) y = ap (λ l. x ∷ l) (front_whole xs y)

-- a list with n + 1 items is the first n and one more
pub parts : {A : Type 0} (xs : List A) (n : ℕ) → length xs ≡ suc n → (x : A) × (xs ≡ take n xs ++ x ∷ [])
parts [] n h = absurd (omega arith)
parts (x ∷ []) zero h = (x, refl)
parts (x ∷ []) (suc n) h = absurd (omega arith)
parts (x ∷ y ∷ xs) zero h = absurd (omega arith)
parts (x ∷ y ∷ xs) (suc n) h = let r = parts (y ∷ xs) n (omega arith) in (r.0, ap (λ l. x ∷ l) r.1)

some_step : (steps : List Step) (t : Tree) (p : List ℕ) → SelectsPath steps t p → 0 < length steps
some_step [] t p h = absurd h
some_step (s ∷ steps) t p h = omega arith

-- steps that select are not empty, and end in a last one
pub last_parts : (steps : List Step) (t : Tree) (p : List ℕ) → SelectsPath steps t p → (before : List Step) × ((s : Step) × (steps ≡ before ++ s ∷ []))
last_parts steps t p h =
    let some = some_step steps t p h in
    let r = parts steps (length steps - 1) (omega arith) in
    (take (length steps - 1) steps, (r.0, r.1))

-- steps that select lead to their end
all_reached : (steps : List Step) (t : Tree) (k : ℕ) (p : List ℕ) → IsLongestMatch steps t k → SelectsPath steps t p → k ≡ length steps
all_reached steps t k p m h = by (cases_lt k (length steps))
  where
    by : (k < length steps) ⊎ (length steps ≤ k) → k ≡ length steps
    by (inl lt) = absurd (m.longest (length steps) p lt (omega arith) (subst (λ (l : List Step). SelectsPath l t p) (sym (whole steps)) h))
    by (inr le) = let w = m.within in omega arith

-- steps that select a parent lead to it
parent_reached : (steps : List Step) (t : Tree) (k : ℕ) (q : List ℕ) → IsLongestMatch steps t k → SelectsParent steps t q → (0 < k) × (length steps ≤ k + 1)
parent_reached steps t k q m s = by (cases_lt k (length s.before))
  where
    many : length steps ≡ length s.before + 1
    many = ap (λ (l : List Step). length l) s.are ∙ length-append s.before (s.step ∷ [])

    front : take (length s.before) steps ≡ s.before
    front = ap (λ (l : List Step). take (length s.before) l) s.are ∙ front_whole s.before s.step

    by : (k < length s.before) ⊎ (length s.before ≤ k) → (0 < k) × (length steps ≤ k + 1)
    by (inl lt) = absurd (m.longest (length s.before) q lt (let e = many in omega arith) (subst (λ (l : List Step). SelectsPath l t q) (sym front) s.selects))
    by (inr le) = let some = some_step s.before t q s.selects in let e = many in (omega arith, omega arith)

not_both : (end : End) → end ≡ ends.Element → EndsInAttribute end → ⊥
not_both end is a = let e = a.1.1 in cc

-- ---- which edit target

pub nothing_selected : (steps : List Step) (t : Tree) (k : ℕ) → IsLongestMatch steps t k → (k ≡ length steps → ⊥) → SelectNothing steps t
nothing_selected steps t k m ne p h = ne (all_reached steps t k p m h)

pub parent_selected : (steps : List Step) (t : Tree) (k : ℕ) (q : List ℕ) → length steps ≡ suc k → SelectsPath (take k steps) t q → SelectsParent steps t q
parent_selected steps t k q is h = let r = parts steps k is in record { before = take k steps; step = r.0; are = r.1; selects = h }

-- no target of an element: the steps lead neither to their end nor to a parent, and there isn't
-- just one
pub no_element_spot : (t : Tree) (selector : Selector) (k : ℕ) → selector.end ≡ ends.Element → IsLongestMatch selector.steps t k → (k ≡ length selector.steps → 0 < k → ⊥) → (0 < k → length selector.steps ≤ k + 1 → ⊥) → (length selector.steps ≡ 1 → ⊥) → (spot : Spot) → IsSpotOf t selector spot → ⊥
no_element_spot t selector k ends_so m not_all not_parent not_one (Over p) h = let e = all_reached selector.steps t k p m h.1 in let some = some_step selector.steps t p h.1 in not_all e (omega arith)
no_element_spot t selector k ends_so m not_all not_parent not_one (Under q) h = let r = parent_reached selector.steps t k q m h.2 in not_parent r.0 r.1
no_element_spot t selector k ends_so m not_all not_parent not_one Beside h = not_one (ap (λ (l : List Step). length l) h.2.1)
no_element_spot t selector k ends_so m not_all not_parent not_one (Value p) h = not_both selector.end ends_so h.0

-- ---- as computed

pub none_by : {A : Type 0} (o : Option A) (b : Bool) → is_some o ≡ not b → IsTrue b → o ≡ None
none_by None b h t = refl
none_by (Some x) b h t = let e : true ≡ false = h ∙ ap not t in cc

pub some_by : {A : Type 0} (o : Option A) (b : Bool) → is_some o ≡ not b → b ≡ false → o ≡ None → ⊥
some_by o b h f none = let e : false ≡ true = sym (ap is_some none) ∙ h ∙ ap not f in cc

pub nothing : (steps : List Step) (t : Tree) (o : Option (List ℕ)) → o ≡ selected_element_path steps t → o ≡ None → SelectNothing steps t
nothing steps t o is none p h = none-some p (sym none ∙ is ∙ (path_is steps t p).1 h)

-- where something is selected, and only the root can be
pub selected_some : (steps : List Step) (t : Tree) (o : Option (List ℕ)) → o ≡ selected_element_path steps t → (o ≡ None → ⊥) → ((p : List ℕ) → SelectsPath steps t p → p ≡ []) → SelectsPath steps t []
selected_some steps t None is some alone = absurd (some refl)
selected_some steps t (Some p) is some alone =
    let h = (path_is steps t p).0 (sym is) in
    subst (λ (l : List ℕ). SelectsPath steps t l) (alone p h) h

-- ---- as the code finds it: the edit target, by how far the steps select

some_number : (n : ℕ) → (n ≡ 0 → ⊥) → 0 < n
some_number zero h = absurd (h refl)
some_number (suc n) h = omega arith

module _ (t : Tree) (selector : Selector) (many : ℕ) (reached : Reached) (is_many : many ≡ length selector.steps) (r : ReachesElement selector.steps t reached) where
  abbrev k : ℕ
  k = reached.steps

  -- one of at most n steps
  within : k ≤ many
  within = let w = r.longest.within in let m = is_many in omega arith

  pub is_under : selector.end ≡ ends.Element → (k ≡ 0 → ⊥) → k < many → many - k ≡ 1 → IsSpotOf t selector (Under reached.path)
  is_under ends_so some lt one = (
    ends_so,
    nothing_selected selector.steps t k r.longest (λ all. let m = is_many in absurd (omega arith)),
    parent_selected selector.steps t k reached.path (let m = is_many in omega arith) (r.selected (some_number k some)),
  )

  -- none
  pub no_first_step : selector.end ≡ ends.Element → k ≡ 0 → (many ≡ 1 → ⊥) → IsLongestMatch selector.steps t 0 × ((spot : Spot) → IsSpotOf t selector spot → ⊥)
  no_first_step ends_so none not_one = (
    subst (λ (j : ℕ). IsLongestMatch selector.steps t j) none r.longest,
    no_element_spot t selector k ends_so r.longest (λ all some. absurd (omega arith)) (λ some le. absurd (omega arith)) (λ one. not_one (is_many ∙ one)),
  )

  pub no_parent : selector.end ≡ ends.Element → (k ≡ 0 → ⊥) → (k ≡ many → ⊥) → (k < many → many - k ≡ 1 → ⊥) → IsLongestMatch selector.steps t k × ((spot : Spot) → IsSpotOf t selector spot → ⊥)
  no_parent ends_so some not_all not_next =
      let w = within in
      let m = is_many in
      let s = some_number k some in (
        r.longest,
        no_element_spot t selector k ends_so r.longest (λ all _. not_all (all ∙ sym is_many)) (λ _ le. by_order le (cases_lt k many)) (λ one. not_all (omega arith)),
      )
    where
      by_order : length selector.steps ≤ k + 1 → (k < many) ⊎ (many ≤ k) → ⊥
      by_order le (inl lt) = let m = is_many in not_next lt (omega arith)
      by_order le (inr ge) = let w = within in not_all (omega arith)
