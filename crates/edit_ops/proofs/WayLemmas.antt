-- The path from one place to another below it.
use Rattle.std.proofs.Common.{◌≡◌, ℕ, ◌<◌, ◌≤◌, All, subst, Bool, true, false, cond, List, [], ◌∷◌, ◌++◌, length, Option, Some, None, refl, sym, ap, ◌∙◌, arith}
use Rattle.std.proofs.lemmas.Bool.{eqb-true, eq-eqb, ne_eqb}
use Rattle.std.proofs.lemmas.List.Elements.{recursion_from_All}
use Rattle.std.specs.List.{AllByRecursion}
use Rattle.std.specs.Prelude.{◌==◌}
use Rattle.xml_tree.specs.Edits.{parent_path, last_number}
use Rattle.edit_ops.specs.MovedPaths.{path_below}
use Rattle.xml_tree.proofs.PathLemmas.{front-snoc, final-snoc}

-- ---- one number further

pub path_below-same : (n : ℕ) (q p : List ℕ) → path_below (n ∷ q) (n ∷ p) ≡ path_below q p
path_below-same n q p = ap (λ b. cond b (path_below q p) None) (eq-eqb n n refl)

pub path_below-other : (m n : ℕ) (q p : List ℕ) → (m ≡ n → ⊥) → path_below (m ∷ q) (n ∷ p) ≡ None
path_below-other m n q p ne = ap (λ b. cond b (path_below q p) None) (ne_eqb m n ne)

-- the rest after a place, appended to the place, is the path
whole_if : (b : Bool) (m n : ℕ) (q p r : List ℕ) → (b ≡ true → m ≡ n) → (path_below q p ≡ Some r → p ≡ q ++ r) → cond b (path_below q p) None ≡ Some r → n ∷ p ≡ (m ∷ q) ++ r
whole_if true m n q p r same rest is = λ i. sym (same refl) i ∷ rest is i
whole_if false m n q p r same rest is = absurd (cc)

pub path_below-whole : (q p r : List ℕ) → path_below q p ≡ Some r → p ≡ q ++ r
path_below-whole [] p r is = cc
path_below-whole (m ∷ q) [] r is = absurd (cc)
path_below-whole (m ∷ q) (n ∷ p) r is = whole_if (m == n) m n q p r (eqb-true m n) (path_below-whole q p r) is

-- ---- a place and its parent

none_if : {A B : Type 0} (b : Bool) (x : Option A) (y : Option B) → (x ≡ None → y ≡ None) → cond b x None ≡ None → cond b y None ≡ None
none_if true x y f h = f h
none_if false x y f h = refl

-- a place that isn't on the path to another isn't on the path to its parent
pub front-none : (p q : List ℕ) → path_below p q ≡ None → path_below p (parent_path q) ≡ None
front-none [] q h = absurd (cc)
front-none (n ∷ p) [] h = refl
front-none (n ∷ p) (m ∷ []) h = refl
front-none (n ∷ p) (m ∷ k ∷ q) h = none_if (n == m) (path_below p (k ∷ q)) (path_below p (parent_path (k ∷ q))) (front-none p (k ∷ q)) h

apart_if : {A B : Type 0} (b : Bool) (x : Option A) (y : Option B) (s : B) (C : Type 0) → (x ≡ None → y ≡ Some s → C) → cond b x None ≡ None → cond b y None ≡ Some s → C
apart_if true x y s C f h k = f h k
apart_if false x y s C f h k = absurd (cc)

-- a path that leads through the parent of a place, and not through the place, continues with
-- another number
pub front-apart : (q p : List ℕ) (n : ℕ) (r : List ℕ) → 0 < length q → path_below q p ≡ None → path_below (parent_path q) p ≡ Some (n ∷ r) → last_number q ≡ n → ⊥
front-apart [] p n r some h k e = absurd (omega arith)
front-apart (m ∷ []) [] n r some h k e = absurd (cc)
front-apart (m ∷ []) (x ∷ p) n r some h k e =
    let same : x ≡ n = cc in
    let there : path_below (m ∷ []) (x ∷ p) ≡ Some p = ap (λ b. cond b (path_below [] p) None) (eq-eqb m x (e ∙ sym same)) in absurd (cc)
front-apart (m ∷ l ∷ q) [] n r some h k e = absurd (cc)
front-apart (m ∷ l ∷ q) (x ∷ p) n r some h k e =
    apart_if (m == x) (path_below (l ∷ q) p) (path_below (parent_path (l ∷ q)) p) (n ∷ r) ⊥ (λ h' k'. front-apart (l ∷ q) p n r (omega arith) h' k' e) h k

-- a place by its parent and its number
pub ruleset parents = (front-snoc, final-snoc)

-- ---- numbers within a bound

within_by_recursion : (xs ys : List ℕ) (n : ℕ) → AllByRecursion (λ k. k ≤ 4294967295) (xs ++ n ∷ ys) → n ≤ 4294967295
within_by_recursion [] ys n h = h.0
within_by_recursion (x ∷ xs) ys n h = within_by_recursion xs ys n h.1

-- a number on a path of small numbers is small
pub is_small : (p xs ys : List ℕ) (n : ℕ) → p ≡ xs ++ n ∷ ys → All (λ k. k ≤ 4294967295) p → n ≤ 4294967295
is_small p xs ys n is h = within_by_recursion xs ys n (recursion_from_All (λ k. k ≤ 4294967295) (xs ++ n ∷ ys) (subst (λ l. All (λ k. k ≤ 4294967295) l) is h))
