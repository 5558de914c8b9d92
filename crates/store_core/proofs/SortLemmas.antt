-- Stable sorting by a test: two sorted lists are equal, where equal items are alike in both.
use Rattle.std.proofs.Common.{◌≡◌, ℕ, suc, zero, ◌+◌, ◌<◌, ◌≤◌, Bool, true, false, cond, not, ◌&&◌, List, [], ◌∷◌, get_or, length, filter, refl, sym, ap, subst, ◌∙◌, arith}
use Rattle.std.proofs.lemmas.List.Sorted.{sorted_far}
use Rattle.std.specs.Cmp.{IsStrictWeakOrder}
use Rattle.std.specs.List.{AllByRecursion}
use Rattle.std.specs.List.Sorted.{IsSortedBy, ties}

module _ {X : Type 0} (lt : X → X → Bool) where
  -- none of these is less than x
  abbrev pub From : X → List X → Type 0
  From x ys = AllByRecursion (λ y. lt y x ≡ false) ys

  -- none is less than an earlier one
  abbrev pub Rises : List X → Type 0
  Rises [] = Unit {0}
  Rises (x ∷ xs) = From x xs × Rises xs

  from-places : (x : X) (ys : List X) → ((k : ℕ) → k < length ys → lt (get_or ys k x) x ≡ false) → From x ys
  from-places x [] h = tt
  from-places x (y ∷ ys) h = (h 0 (omega arith), from-places x ys (λ k p. h (suc k) (omega arith)))

  rises-places : (xs : List X) → ((i j : ℕ) (d : X) → i ≤ j → j < length xs → lt (get_or xs j d) (get_or xs i d) ≡ false) → Rises xs
  rises-places [] h = tt
  rises-places (x ∷ xs) h = (from-places x xs (λ k p. h 0 (suc k) x (omega arith) (omega arith)), rises-places xs (λ i j d p q. h (suc i) (suc j) d (omega arith) (omega arith)))

  next-place : (xs : List X) → Rises xs → (k : ℕ) (d : X) → suc k < length xs → lt (get_or xs (suc k) d) (get_or xs k d) ≡ false
  next-place [] u k d p = absurd (omega arith)
  next-place (x ∷ []) u k d p = absurd (omega arith)
  next-place (x ∷ y ∷ ys) u zero d p = u.0.0
  next-place (x ∷ y ∷ ys) u (suc k) d p = next-place (y ∷ ys) u.1 k d (omega arith)

  pub sorted-rises : (xs : List X) → Rises xs → IsSortedBy lt xs
  sorted-rises xs u k d low high =
      let next : k + 1 ≡ suc k = omega arith in
      ap (λ (n : ℕ). lt (get_or xs n d) (get_or xs k d)) next ∙ next-place xs u k d (omega arith)

  module _ (o : IsStrictWeakOrder lt) where
    pub rises-sorted : (xs : List X) → IsSortedBy lt xs → Rises xs
    rises-sorted xs up = rises-places xs (sorted_far lt o xs up)

    turned-once : (x : X) (b : Bool) → lt x x ≡ b → lt x x ≡ false
    turned-once x true h = o.one_way x x h
    turned-once x false h = h

    pub itself : (x : X) → lt x x ≡ false
    itself x = turned-once x (lt x x) refl

    pub ties-so : (x y : X) → lt x y ≡ false → lt y x ≡ false → ties lt x y ≡ true
    ties-so x y h i = ap (λ (b : Bool). not b && not (lt y x)) h ∙ ap not i

    neither : (b c : Bool) → not b && not c ≡ true → (b ≡ false) × (c ≡ false)
    neither true c h = cc
    neither false true h = cc
    neither false false h = (refl, refl)

    pub tied : (x y : X) → ties lt x y ≡ true → (lt x y ≡ false) × (lt y x ≡ false)
    tied x y h = neither (lt x y) (lt y x) h

    pub from-lower : (x y : X) (zs : List X) → lt y x ≡ false → From y zs → From x zs
    from-lower x y [] low a = tt
    from-lower x y (z ∷ zs) low a = (o.chain z y x a.0 low, from-lower x y zs low a.1)

    -- where one of these is equal to z, z isn't less than what none of them is less than
    tie-step : (z y w : X) (l rest : List X) (b : Bool) → ties lt z w ≡ b → lt w y ≡ false → (filter (ties lt z) l ≡ z ∷ rest → lt z y ≡ false) → cond b (w ∷ filter (ties lt z) l) (filter (ties lt z) l) ≡ z ∷ rest → lt z y ≡ false
    tie-step z y w l rest true h low by e = o.chain z w y (tied z w h).0 low
    tie-step z y w l rest false h low by e = by e

    tie-inside : (z y : X) (l rest : List X) → From y l → filter (ties lt z) l ≡ z ∷ rest → lt z y ≡ false
    tie-inside z y [] rest a e = cc
    tie-inside z y (w ∷ l) rest a e = tie-step z y w l rest (ties lt z w) refl a.0 (tie-inside z y l rest a.1) e

    -- the first of a list is equal to itself
    with-itself : (x : X) (xs : List X) → filter (ties lt x) (x ∷ xs) ≡ x ∷ filter (ties lt x) xs
    with-itself x xs = ap (λ (b : Bool). cond b (x ∷ filter (ties lt x) xs) (filter (ties lt x) xs)) (ties-so x x (itself x) (itself x))

    same-rest : (y : X) (b : Bool) (us vs : List X) → cond b (y ∷ us) us ≡ cond b (y ∷ vs) vs → us ≡ vs
    same-rest y true us vs e = cc
    same-rest y false us vs e = e

    heads : (x y : X) (xs ys : List X) → x ∷ xs ≡ y ∷ ys → x ≡ y
    heads x y xs ys e = cc

    abbrev Alike : List X → List X → Type 0
    Alike xs ys = (x : X) → filter (ties lt x) xs ≡ filter (ties lt x) ys

    same-step : (y z : X) (ys zs : List X) → y ≡ z → Alike (y ∷ ys) (z ∷ zs) → (Alike ys zs → ys ≡ zs) → y ∷ ys ≡ z ∷ zs
    same-step y z ys zs same alike by =
        let alike-at : Alike (y ∷ ys) (y ∷ zs) = subst (λ (w : X). Alike (y ∷ ys) (w ∷ zs)) (sym same) alike in
        let rest = by (λ (x : X). same-rest y (ties lt x y) (filter (ties lt x) ys) (filter (ties lt x) zs) (alike-at x)) in
        ap (λ (w : X). w ∷ ys) same ∙ ap (λ (l : List X). z ∷ l) rest

    same-heads : (y z : X) (ys zs : List X) → From y ys → From z zs → Alike (y ∷ ys) (z ∷ zs) → y ≡ z
    same-heads y z ys zs above-y above-z alike =
        let of-y : filter (ties lt y) (z ∷ zs) ≡ y ∷ filter (ties lt y) ys = sym (alike y) ∙ with-itself y ys in
        let of-z : filter (ties lt z) (y ∷ ys) ≡ z ∷ filter (ties lt z) zs = alike z ∙ with-itself z zs in
        let y-low = tie-inside y z (z ∷ zs) (filter (ties lt y) ys) (itself z, above-z) of-y in
        let z-low = tie-inside z y (y ∷ ys) (filter (ties lt z) zs) (itself y, above-y) of-z in
        let first : filter (ties lt y) (z ∷ zs) ≡ z ∷ filter (ties lt y) zs = ap (λ (b : Bool). cond b (z ∷ filter (ties lt y) zs) (filter (ties lt y) zs)) (ties-so y z y-low z-low) in
        heads y z (filter (ties lt y) ys) (filter (ties lt y) zs) (sym of-y ∙ first)

    none-left : (x : X) (xs : List X) → [] ≡ filter (ties lt x) (x ∷ xs) → ⊥
    none-left x xs e = let clash = e ∙ with-itself x xs in cc

    pub one-order : (ys zs : List X) → Rises ys → Rises zs → Alike ys zs → ys ≡ zs
    one-order [] [] u v alike = refl
    one-order [] (z ∷ zs) u v alike = absurd (none-left z zs (alike z))
    one-order (y ∷ ys) [] u v alike = absurd (none-left y ys (sym (alike y)))
    one-order (y ∷ ys) (z ∷ zs) u v alike =
        same-step y z ys zs (same-heads y z ys zs u.0 v.0 alike) alike (one-order ys zs u.1 v.1)
