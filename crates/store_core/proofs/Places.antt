-- The first item that passes a test, where some items are among others that don't pass.
use Rattle.std.proofs.Common.{◌≡◌, ℕ, ◌+◌, Bool, true, false, cond, List, [], ◌∷◌, ◌++◌, length, Option, None, Some, option_map, refl, sym, ap, ◌∙◌, arith}
use Rattle.std.proofs.lemmas.Iterator.Adapters.{position_from-zero}
use Rattle.std.specs.List.{AllByRecursion, position, position_from}
use Rattle.std.specs.Prelude.{max}
use Rattle.store_core.specs.inner.Addresses.{AreAddedAt}
use Rattle.store_core.proofs.AdmissionLemmas.{no-place}

max-zero : (n : ℕ) → max n 0 ≡ n
max-zero n = omega arith

zero-max : (n : ℕ) → max 0 n ≡ n
zero-max n = omega arith

module _ {X : Type 0} (p : X → Bool) where
  abbrev None-of : List X → Type 0
  None-of xs = AllByRecursion (λ x. p x ≡ false) xs

  skipped : (n : ℕ) (xs ys : List X) → None-of xs → position_from p n (xs ++ ys) ≡ position_from p (n + length xs) ys
  skipped n [] ys h = ap (λ (m : ℕ). position_from p m ys) (omega arith)
  skipped n (x ∷ xs) ys h =
      ap (λ (b : Bool). cond b (Some n) (position_from p (n + 1) (xs ++ ys))) h.0 ∙ skipped (n + 1) xs ys h.1 ∙ ap (λ (m : ℕ). position_from p m ys) (omega arith)

  cut-off : (n : ℕ) (xs ys : List X) → None-of ys → position_from p n (xs ++ ys) ≡ position_from p n xs
  cut-off n [] ys h = no-place p n ys h
  cut-off n (x ∷ xs) ys h = ap (cond (p x) (Some n)) (cut-off (n + 1) xs ys h)

  from-there : (before xs behind : List X) → None-of before → None-of behind → position p (before ++ (xs ++ behind)) ≡ position_from p (length before) xs
  from-there before xs behind h g =
      position_from-zero p (before ++ (xs ++ behind)) ∙ skipped 0 before (xs ++ behind) h ∙ cut-off (0 + length before) xs behind g ∙ ap (λ (m : ℕ). position_from p m xs) (omega arith)

module _ (p : List ℕ → Bool) where
  one-step : (place n : ℕ) (b : Bool) → n ≡ place → ◌≡◌ {A = Option ℕ} (cond b (Some n) None) (option_map (λ i. max place i) (cond b (Some 0) None))
  one-step place n true e = ap Some (e ∙ sym (max-zero place))
  one-step place n false e = refl

  from-zero : (place : ℕ) (o : Option ℕ) → place ≡ 0 → o ≡ option_map (λ i. max place i) o
  from-zero place None e = refl
  from-zero place (Some i) e = ap Some (sym (ap (λ (n : ℕ). max n i) e ∙ zero-max i))

  by-them : (place n : ℕ) (us : List (List ℕ)) → AreAddedAt place n us → position_from p n us ≡ option_map (λ i. max place i) (position_from p 0 us)
  by-them place n [] come = refl
  by-them place n (u ∷ []) come = one-step place n (p u) come
  by-them place n (u ∷ v ∷ us) come =
      ap (λ (m : ℕ). position_from p m (u ∷ v ∷ us)) come.0 ∙ from-zero place (position_from p 0 (u ∷ v ∷ us)) come.1

  -- the first of all addresses that passes, by the first of the added ones
  pub first-among : (place : ℕ) (before us behind : List (List ℕ)) → None-of p before → None-of p behind → AreAddedAt place (length before) us
      → position p (before ++ (us ++ behind)) ≡ option_map (λ i. max place i) (position p us)
  first-among place before us behind h g come =
      from-there p before us behind h g ∙ by-them place (length before) us come ∙ sym (ap (option_map (λ i. max place i)) (position_from-zero p us))
