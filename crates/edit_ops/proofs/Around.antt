-- The scope around an element, and absent attributes.
use Rattle.std.proofs.Common.{◌≡◌, ℕ, Bool, true, false, cond, not, ◌||◌, List, [], ◌∷◌, ◌++◌, Option, Some, None, IsSome, is_none, refl, ap, subst}
use Rattle.std.specs.List.{find, list_any}
use Rattle.std.specs.Option.{option_and_then}
use Rattle.xml_tree.specs.Tree.{Tree, at}
use Rattle.xml_tree.specs.TreeScopes.{scope_around, scope_at}
use Rattle.xml_tree.proofs.PathLemmas.{at-snoc, front-snoc}

some_before : {A : Type 0} (f : Tree → Option A) (o : Option Tree) → IsSome (option_and_then f o) → IsSome o
some_before f None h = h
some_before f (Some e) h = refl

-- above each element except the root there is one, and its scope is the one around the element
-- below it
pub there-above : (p : List ℕ) (k : ℕ) (t : Tree) → IsSome (at (p ++ k ∷ []) t) → IsSome (at p t)
there-above p k t h = some_before _ (at p t) (subst IsSome (at-snoc p k t) h)

pub scope-above : (p : List ℕ) (k : ℕ) (t : Tree) → scope_around (p ++ k ∷ []) t ≡ scope_at p t
scope-above [] k t = refl
scope-above (n ∷ p) k t = ap (λ q. scope_at q t) (front-snoc (n ∷ p) k)

pub ruleset around = (there-above, scope-above)

-- none is found where none passes
pub none-found : {A : Type 0} (f : A → Bool) (xs : List A) → is_none (find f xs) ≡ not (list_any f xs)
none-found f [] = refl
none-found f (x ∷ xs) = by (f x) (none-found f xs)
  where
    by : (b : Bool) → is_none (find f xs) ≡ not (list_any f xs) → is_none (cond b (Some x) (find f xs)) ≡ not (b || list_any f xs)
    by true e = refl
    by false e = e
