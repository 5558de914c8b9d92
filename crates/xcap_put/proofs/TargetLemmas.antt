-- Edit targets of a PUT: whether the node is there already, and the scope and the levels of its
-- place.
use Rattle.std.specs.Prelude.{slice_get, unwrap_or}
use Rattle.std.proofs.Common.{◌≡◌, ℕ, suc, ◌<◌, ◌≤◌, ◌+◌, true, false, List, [], ◌∷◌, ◌++◌, length, length-append, Option, None, Some, IsSome, is_some, option_map, option_and_then, refl, sym, ap, subst, ◌∙◌, arith}
use Rattle.xml_tree.specs.Edits.{parent_path}
use Rattle.xml_tree.specs.TreeScopes.{scope_around, scope_at}
use Rattle.xml_tree.specs.Tree.{Tree, at, height, child_elements_of}
use Rattle.xml_tree.proofs.PathLemmas.{front-snoc}
use Rattle.xml_tree.proofs.PlaceLaws.{at-append, height-at}
use Rattle.node_select.specs.Selection.{SelectsPath, selected_element_path}
use Rattle.node_select.specs.declared.selector.End.{End}
use Rattle.node_select.specs.declared.selector.End.TheVariants as ends
use Rattle.node_select.specs.declared.selector.Selector.{Selector}
use Rattle.node_select.proofs.Along.{path_there}
use Rattle.node_select.proofs.ReachLemmas.{path_is}
use Rattle.reply_bodies.specs.Nodes.{found_text, node_text, node_text_at}
use Rattle.edit_rules.specs.Spots.{IsSpotOf, SelectNothing}
use Rattle.edit_rules.specs.declared.spot.Spot.{Spot}
use Rattle.edit_rules.specs.declared.spot.Spot.TheVariants.{Over, Under, Beside, Value}
use Rattle.xcap_machine.specs.NodeWrites.{node_exists, max_height_at, edit_target_scope}
use Rattle.xcap_put.specs.inner.RequestPlans.{SpotExists}

-- ---- whether the node is there

text_over : (end : End) (t : Tree) (p : List ℕ) → end ≡ ends.Element → IsSome (at p t) → is_some (node_text_at end p t) ≡ true
text_over end t p is there = subst (λ (x : End). is_some (node_text_at x p t) ≡ true) (sym is) (by (at p t) there)
  where
    by : (o : Option Tree) → IsSome o → is_some (option_and_then (node_text ends.Element (scope_at p t)) o) ≡ true
    by None h = cc
    by (Some e) h = refl

found_at : (t : Tree) (selector : Selector) (p : List ℕ) → SelectsPath selector.steps t p → found_text t selector ≡ node_text_at selector.end p t
found_at t selector p selects = ap (option_and_then (λ q. node_text_at selector.end q t)) ((path_is selector.steps t p).1 selects)

not_found : (t : Tree) (selector : Selector) → SelectNothing selector.steps t → node_exists t selector ≡ false
not_found t selector nothing = by (selected_element_path selector.steps t) refl
  where
    by : (o : Option (List ℕ)) → selected_element_path selector.steps t ≡ o → node_exists t selector ≡ false
    by None is = ap (λ (o : Option (List ℕ)). is_some (option_and_then (λ q. node_text_at selector.end q t) o)) is
    by (Some p) is = absurd (nothing p ((path_is selector.steps t p).0 is))

module _ (t : Tree) (selector : Selector) (spot : Spot) (is : IsSpotOf t selector spot) where
  so_is : (s : Spot) → spot ≡ s → IsSpotOf t selector s
  so_is s same = subst (λ (x : Spot). IsSpotOf t selector x) same is

  pub there_over : (p : List ℕ) → spot ≡ Over p → true ≡ node_exists t selector
  there_over p same =
      let over = so_is (Over p) same in
      sym (ap (λ (o : Option (List ℕ)). is_some o) (found_at t selector p over.1) ∙ text_over selector.end t p over.0 (path_there selector.steps t p over.1))

  pub new_under : (q : List ℕ) → spot ≡ Under q → false ≡ node_exists t selector
  new_under q same = sym (not_found t selector (so_is (Under q) same).1)

  pub new_beside : spot ≡ Beside → false ≡ node_exists t selector
  new_beside same = sym (not_found t selector (so_is Beside same).1)

  pub there_as_value : (p : List ℕ) → spot ≡ Value p → is_some (node_text_at selector.end p t) ≡ node_exists t selector
  there_as_value p same = sym (ap (λ (o : Option (List ℕ)). is_some o) (found_at t selector p (so_is (Value p) same).1))

-- ---- the element of an edit target

pub leads : (t : Tree) (selector : Selector) (spot : Spot) → IsSpotOf t selector spot → SpotExists t spot
leads t selector (Over p) is = path_there selector.steps t p is.1
leads t selector (Under q) is = path_there is.2.before t q is.2.selects
leads t selector Beside is = tt
leads t selector (Value p) is = path_there selector.steps t p is.1

-- ---- its scope

from_chain : {A B : Type 0} (o : Option A) (f : A → Option B) → IsSome (option_and_then f o) → IsSome o
from_chain None f h = h
from_chain (Some x) f h = refl

pub parent_there : (t : Tree) (p parent : List ℕ) (n : ℕ) → p ≡ parent ++ n ∷ [] → IsSome (at p t) → IsSome (at parent t)
parent_there t p parent n is there = from_chain (at parent t) (at (n ∷ [])) (subst (λ (o : Option Tree). IsSome o) (ap (λ (q : List ℕ). at q t) is ∙ at-append parent (n ∷ []) t) there)

around_some : (p : List ℕ) (t : Tree) → 0 < length p → scope_around p t ≡ scope_at (parent_path p) t
around_some [] t h = absurd (omega arith)
around_some (n ∷ p) t h = refl

pub around_is : (t : Tree) (p parent : List ℕ) (n : ℕ) → p ≡ parent ++ n ∷ [] → scope_at parent t ≡ scope_around p t
around_is t p parent n is =
    sym (around_some p t (omega (arith, ap (λ (l : List ℕ). length l) is, length-append parent (n ∷ []))) ∙ ap (λ (l : List ℕ). scope_at l t) (ap parent_path is ∙ front-snoc parent n))

-- ---- its levels

scope_len : (p : List ℕ) (t : Tree) → length (scope_at p t) ≤ suc (length p)
scope_len [] t = omega arith
scope_len (n ∷ p) t = by (slice_get (child_elements_of t) n) (λ k. scope_len p k)
  where
    by : (o : Option Tree) → ((k : Tree) → length (scope_at p k) ≤ suc (length p)) → length (t.decls ∷ unwrap_or (option_map (scope_at p) o) []) ≤ suc (length (n ∷ p))
    by None below = omega arith
    by (Some k) below = let h = below k in omega arith

front_len : (n : ℕ) (p : List ℕ) → length (parent_path (n ∷ p)) ≡ length p
front_len n [] = refl
front_len n (m ∷ p) = ap suc (front_len m p)

around_len : (p : List ℕ) (t : Tree) → length (scope_around p t) ≤ length p
around_len [] t = omega arith
around_len (n ∷ p) t = let h = scope_len (parent_path (n ∷ p)) t in let e = front_len n p in omega arith

there_low : (t : Tree) (p : List ℕ) → IsSome (at p t) → height t ≤ 64 → suc (length p) ≤ 64
there_low t p there low = by (at p t) refl there
  where
    by : (o : Option Tree) → at p t ≡ o → IsSome o → suc (length p) ≤ 64
    by None is h = cc
    by (Some e) is h = let k = height-at p e t is in omega (arith, k, low)

pub scope_fits : (t : Tree) (spot : Spot) → SpotExists t spot → height t ≤ 64 → length (edit_target_scope t spot) + max_height_at spot ≤ 67
scope_fits t (Over p) there low = let a = around_len p t in let h = there_low t p there low in omega arith
scope_fits t (Under q) there low = let a = scope_len q t in let h = there_low t q there low in omega arith
scope_fits t Beside there low = omega arith
scope_fits t (Value p) there low = omega arith
