-- Lists with one place changed, or one element more.
use Rattle.std.proofs.Common.{◌≡◌, ℕ, zero, suc, ◌+◌, ◌<◌, ◌≤◌, ◌⊎◌, inl, inr, List, [], ◌∷◌, ◌++◌, length, Option, None, Some, refl, sym, ap, ◌∙◌, arith}
use Rattle.std.specs.Prelude.{leb, slice_set, slice_index_or, true, false, Bool, cond, is_some, ◌||◌}
use Rattle.std.specs.List.{list_any, position, position_from}
use Rattle.std.proofs.lemmas.Iterator.Adapters.{position_from-zero}
use Rattle.std.proofs.lemmas.List.{get_or_past}
use Rattle.std.proofs.lemmas.Bool.Decides.{leb_tells}

pub set-set : {A : Type 0} (xs : List A) (n : ℕ) (a b : A) → slice_set (slice_set xs n a) n b ≡ slice_set xs n b
set-set [] n a b = refl
set-set (x ∷ xs) zero a b = refl
set-set {A} (x ∷ xs) (suc n) a b = ap (λ (ls : List A). x ∷ ls) (set-set xs n a b)

pub at-end : {A : Type 0} (xs : List A) (a d : A) → slice_index_or (xs ++ a ∷ []) (length xs) d ≡ a
at-end [] a d = refl
at-end (x ∷ xs) a d = at-end xs a d

pub at-before : {A : Type 0} (xs : List A) (a d : A) (n : ℕ) → n < length xs → slice_index_or (xs ++ a ∷ []) n d ≡ slice_index_or xs n d
at-before [] a d n inside = absurd (let no : ⊥ = omega arith in no)
at-before (x ∷ xs) a d zero inside = refl
at-before (x ∷ xs) a d (suc n) inside = at-before xs a d n (omega arith)

pub length-more : {A : Type 0} (xs : List A) (a : A) → length (xs ++ a ∷ []) ≡ length xs + 1
length-more [] a = refl
length-more (x ∷ xs) a = let e = length-more xs a in omega (arith, e)

pub some_inj : {A : Type 0} (a b : A) → Some a ≡ Some b → a ≡ b
some_inj a b e = cc

pub none_some : {A : Type 0} (a : A) → None ≡ Some a → ⊥
none_some a e = cc

-- a place where something is lies within the list
pub is_within : {A : Type 0} (xs : List (Option A)) (k : ℕ) (a : A) → slice_index_or xs k None ≡ Some a → k < length xs
is_within {A} xs k a is = by_test (leb_tells (length xs) k)
  where
    by_test : ((leb (length xs) k ≡ true) × (length xs ≤ k)) ⊎ ((leb (length xs) k ≡ false) × (k < length xs)) → k < length xs
    by_test (inl (_, past)) = absurd (none_some a (sym (get_or_past xs k None past) ∙ is))
    by_test (inr (_, inside)) = inside

position_any : {A : Type 0} (test : A → Bool) (i : ℕ) (xs : List A) → is_some (position_from test i xs) ≡ list_any test xs
position_any test i [] = refl
position_any {A} test i (x ∷ xs) = by_test (test x) (position_any test (i + 1) xs)
  where
    by_test : (b : Bool) → is_some (position_from test (i + 1) xs) ≡ list_any test xs → is_some (cond b (Some i) (position_from test (i + 1) xs)) ≡ (b || list_any test xs)
    by_test true e = refl
    by_test false e = e

-- there is a first element that passes a test exactly where one passes
pub first_any : {A : Type 0} (test : A → Bool) (xs : List A) → is_some (position test xs) ≡ list_any test xs
first_any test xs = ap (λ (o : Option ℕ). is_some o) (position_from-zero test xs) ∙ position_any test 0 xs
