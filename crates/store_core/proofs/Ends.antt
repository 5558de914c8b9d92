-- The small end of a list, and one item more.
use Rattle.std.proofs.Common.{◌≡◌, ℕ, ◌≤◌, Bool, true, false, ◌&&◌, nat_le, cond, List, [], ◌∷◌, ◌++◌, length, sum_by, refl, sym, ap, ◌∙◌, arith, length-append}
use Rattle.std.proofs.lemmas.Bool.Decides.{nat_tests}
use Rattle.std.proofs.lemmas.List.Sums.{sum_by-append}
use Rattle.store_core.specs.State.{is_within_retention, longest_retained_end}

module _ {A : Type 0} (weight : A → ℕ) where
  -- what isn't small isn't small with one more item
  less : (n m s t : ℕ) → n ≤ m → s ≤ t → (nat_le n 64 && nat_le s 65536) ≡ false → (nat_le m 64 && nat_le t 65536) ≡ false
  less n m s t few light e = grind (arith, nat_tests)

  not_small : (xs : List A) (x : A) → is_within_retention weight xs ≡ false → is_within_retention weight (xs ++ x ∷ []) ≡ false
  not_small xs x e =
      less (length xs) (length (xs ++ x ∷ [])) (sum_by weight xs) (sum_by weight (xs ++ x ∷ [])) (omega (arith, length-append xs (x ∷ []))) (omega (arith, sum_by-append weight xs (x ∷ []))) e

  end-step : (x y : A) (xs : List A) (n : A) (b : Bool) → is_within_retention weight (x ∷ y ∷ xs) ≡ b
      → longest_retained_end weight (longest_retained_end weight (y ∷ xs) ++ n ∷ []) ≡ longest_retained_end weight (y ∷ xs ++ n ∷ [])
      → longest_retained_end weight (cond b (x ∷ y ∷ xs) (longest_retained_end weight (y ∷ xs)) ++ n ∷ []) ≡ longest_retained_end weight (x ∷ y ∷ xs ++ n ∷ [])
  end-step x y xs n true e by = refl
  end-step x y xs n false e by =
      by ∙ sym (ap (λ b. cond b (x ∷ y ∷ (xs ++ n ∷ [])) (longest_retained_end weight (y ∷ (xs ++ n ∷ [])))) (not_small (x ∷ y ∷ xs) n e))

  -- the small end with one more item has the same small end as the whole list with it
  pub longest_retained_end-push : (xs : List A) (n : A) → longest_retained_end weight (longest_retained_end weight xs ++ n ∷ []) ≡ longest_retained_end weight (xs ++ n ∷ [])
  longest_retained_end-push [] n = refl
  longest_retained_end-push (x ∷ []) n = refl
  longest_retained_end-push (x ∷ y ∷ xs) n = end-step x y xs n (is_within_retention weight (x ∷ y ∷ xs)) refl (longest_retained_end-push (y ∷ xs) n)
