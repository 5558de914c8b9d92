-- Relative paths from one place to another below it, joined and taken off.
use Rattle.std.proofs.Common.{◌≡◌, ◌==◌, ◌≤◌, ◌+◌, ℕ, Bool, true, false, cond, List, [], ◌∷◌, ◌++◌, length, take, drop, Option, None, Some, option_map, MatchOption, IfSome, refl, sym, ap, ◌∙◌, subst, ⊎_elim, arith}
use Rattle.std.specs.Str.{bytes_eq}
use Rattle.std.proofs.lemmas.Bool.{cases_eq}
use Rattle.std.proofs.lemmas.List.{take-append-drop}
use Rattle.std.proofs.lemmas.Slice.Eq.{bytes_eq-Decides}
use Rattle.edit_ops.specs.MovedPaths.{path_below}
use Rattle.edit_ops.proofs.WayLemmas.{path_below-other, path_below-same, path_below-whole}

-- after a common beginning
pub path_below-common : (q a b : List ℕ) → path_below (q ++ a) (q ++ b) ≡ path_below a b
path_below-common [] a b = refl
path_below-common (n ∷ q) a b = path_below-same n (q ++ a) (q ++ b) ∙ path_below-common q a b

pub path_below-append : (q r : List ℕ) → path_below q (q ++ r) ≡ Some r
path_below-append [] r = refl
path_below-append (n ∷ q) r = path_below-same n q (q ++ r) ∙ path_below-append q r

-- a longer path isn't the beginning of the path that it continues
pub path_below-longer : (q : List ℕ) (n : ℕ) (r : List ℕ) → path_below (q ++ n ∷ r) q ≡ None
path_below-longer [] n r = refl
path_below-longer (m ∷ q) n r = path_below-same m (q ++ n ∷ r) q ∙ path_below-longer q n r

-- what is inside a child is inside its parent
pub parent-none : (f : List ℕ) (i : ℕ) (p : List ℕ) → path_below f p ≡ None → path_below (f ++ i ∷ []) p ≡ None
parent-none [] i p h = cc
parent-none (m ∷ f) i [] h = refl
parent-none (m ∷ f) i (n ∷ p) h = by (m == n) (parent-none f i p) h
  where
    by : (b : Bool) → (path_below f p ≡ None → path_below (f ++ i ∷ []) p ≡ None) → cond b (path_below f p) None ≡ None → cond b (path_below (f ++ i ∷ []) p) None ≡ None
    by true ih g = ih g
    by false ih g = refl

-- a place above a child is the child itself, or above its parent
pub above-none : (f : List ℕ) (i : ℕ) (p : List ℕ) → path_below p f ≡ None → path_below f p ≡ None → path_below p (f ++ i ∷ []) ≡ None
above-none [] i p h g = cc
above-none (m ∷ f) i [] h g = cc
above-none (m ∷ f) i (n ∷ p) h g = ⊎_elim
    (λ same. subst (λ x. path_below (x ∷ p) (m ∷ f) ≡ None → path_below (m ∷ f) (x ∷ p) ≡ None → path_below (x ∷ p) (m ∷ (f ++ i ∷ [])) ≡ None) same
    (λ h' g'. path_below-same m p (f ++ i ∷ []) ∙ above-none f i p (sym (path_below-same m p f) ∙ h') (sym (path_below-same m f p) ∙ g')) h g)
    (λ ne. path_below-other n m p (f ++ i ∷ []) (λ e. ne (sym e)))
    (cases_eq m n)

-- ---- a beginning that is taken off

-- what the path begins with is the place
begun : (q p : List ℕ) → bytes_eq (take (length q) p) q ≡ true → p ≡ q ++ drop (length q) p
begun q p h = sym (take-append-drop (length q) p) ∙ ap (λ (l : List ℕ). l ++ drop (length q) p) ((bytes_eq-Decides (take (length q) p) q).0 h)

taken_back : (q r : List ℕ) → take (length q) (q ++ r) ≡ q
taken_back [] r = refl
taken_back (n ∷ q) r = ap (λ (l : List ℕ). n ∷ l) (taken_back q r)

not_begun : (q p : List ℕ) → bytes_eq (take (length q) p) q ≡ false → path_below q p ≡ None
not_begun q p h = by (path_below q p) refl
  where
    by : (o : Option (List ℕ)) → path_below q p ≡ o → o ≡ None
    by None is = refl
    by (Some r) is =
        let same : take (length q) p ≡ q = ap (take (length q)) (path_below-whole q p r is) ∙ taken_back q r in
        let z : true ≡ false = sym ((bytes_eq-Decides (take (length q) p) q).1 same) ∙ h in
        cc

module _ {T : Type 0} (now : T → List ℕ) (place path q p : List ℕ) (at_place : place ≡ q) (on_path : path ≡ p) where
  -- what is left when the place is taken off the front of the path
  abbrev pub IsLeft : Option T → Type 0
  IsLeft o = MatchOption o (bytes_eq (take (length place) path) place ≡ false) (λ x. (bytes_eq (take (length place) path) place ≡ true) × (now x ≡ drop (length place) path) × (length (now x) + length place ≡ length path))

  pub left_is : (o : Option T) → IsLeft o → option_map now o ≡ path_below q p
  left_is None h = sym (not_begun place path h) ∙ (λ i. path_below (at_place i) (on_path i))
  left_is (Some x) h = ap Some h.1 ∙ sym (ap (path_below place) (begun place path h.0) ∙ path_below-append place (drop (length place) path)) ∙ (λ i. path_below (at_place i) (on_path i))

  pub left_whole : (o : Option T) → IsLeft o → IfSome o (λ x. p ≡ q ++ now x)
  left_whole None h = tt
  left_whole (Some x) h = sym on_path ∙ begun place path h.0 ∙ ap (λ (l : List ℕ). place ++ l) (sym h.1) ∙ ap (λ (l : List ℕ). l ++ now x) at_place

  pub left_fits : (o : Option T) → length path ≤ 64 → IsLeft o → IfSome o (λ x. length q + length (now x) ≤ 64)
  left_fits None few h = tt
  left_fits (Some x) few h = let same = ap length at_place in let sum = h.2 in omega arith
