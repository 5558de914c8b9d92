-- What is retained of change records, as a ring drops its oldest ones.
use Rattle.std.proofs.Common.{◌≡◌, ℕ, ◌+◌, ◌-◌, ◌*◌, ◌<◌, ◌≤◌, ◌&&◌, nat_le, nat_lt, min, Bool, true, false, cond, List, [], ◌∷◌, ◌++◌, length, drop, slice_get, sum_by, Option, None, Some, refl, sym, ap, arith, length-append}
use Rattle.std.proofs.lemmas.Bool.Decides.{nat_tests}
use Rattle.std.proofs.lemmas.List.Sums.{sum_by-append}
use Rattle.circular_buffer.specs.Buffer.{keep_last}
use Rattle.store_core.specs.State.{is_within_retention, longest_retained_end}
use Rattle.store_core.proofs.AcceptedChanges.{sum-first}

module _ {A : Type 0} (weight : A → ℕ) where
  pub one-stays : (xs : List A) → length xs ≤ 1 → longest_retained_end weight xs ≡ xs
  one-stays [] h = refl
  one-stays (x ∷ []) h = refl
  one-stays (x ∷ y ∷ xs) h = absurd (omega arith)

  pub small-stays : (xs : List A) → is_within_retention weight xs ≡ true → longest_retained_end weight xs ≡ xs
  small-stays [] h = refl
  small-stays (x ∷ []) h = refl
  small-stays (x ∷ y ∷ xs) h = ap (λ b. cond b (x ∷ y ∷ xs) (longest_retained_end weight (y ∷ xs))) h

  pub too-heavy : (ns : List A) → 65536 < sum_by weight ns → is_within_retention weight ns ≡ false
  too-heavy ns h = by (length ns) (sum_by weight ns) h
    where
      by : (n w : ℕ) → 65536 < w → (nat_le n 64 && nat_le w 65536) ≡ false
      by n w h = grind (arith, nat_tests)

  pub light-stays : (ns : List A) → sum_by weight ns ≤ 65536 → length ns ≤ 64 → longest_retained_end weight ns ≡ ns
  light-stays ns light few = small-stays ns (by (length ns) (sum_by weight ns) light few)
    where
      by : (n w : ℕ) → w ≤ 65536 → n ≤ 64 → (nat_le n 64 && nat_le w 65536) ≡ true
      by n w light few = grind (arith, nat_tests)

-- ---- the counted weights of a ring's records together

module _ {E : Type 0} (c : E → ℕ) where
  abbrev pub sum_in : Option E → ℕ
  sum_in None = 0
  sum_in (Some x) = c x

  pub sum-popped : (xs : List E) → sum_by c (drop 1 xs) + sum_in (slice_get xs 0) ≡ sum_by c xs
  sum-popped [] = refl
  sum-popped (x ∷ xs) = omega (arith, sum-first c x xs)

  sum-behind : (xs : List E) (n : E) → sum_by c (xs ++ n ∷ []) ≡ sum_by c xs + c n
  sum-behind xs n = omega (arith, sum_by-append c xs (n ∷ []), sum-first c n [])

  none-out : (cap : ℕ) (xs : List E) (n : E) (k : ℕ) → k ≡ 0 → nat_lt (length xs) cap ≡ true
      → sum_by c (drop k (xs ++ n ∷ [])) + sum_in (cond (nat_lt (length xs) cap) None (slice_get (xs ++ n ∷ []) 0)) ≡ sum_by c xs + c n
  none-out cap xs n k e h =
      let rest = ap (λ (i : ℕ). sum_by c (drop i (xs ++ n ∷ []))) e in
      let gone = ap (λ b. sum_in (cond b None (slice_get (xs ++ n ∷ []) 0))) h in
      omega (arith, rest, gone, sum-behind xs n)

  one-out : (cap : ℕ) (xs : List E) (n : E) (k : ℕ) → k ≡ 1 → nat_lt (length xs) cap ≡ false
      → sum_by c (drop k (xs ++ n ∷ [])) + sum_in (cond (nat_lt (length xs) cap) None (slice_get (xs ++ n ∷ []) 0)) ≡ sum_by c xs + c n
  one-out cap xs n k e h =
      let rest = ap (λ (i : ℕ). sum_by c (drop i (xs ++ n ∷ []))) e in
      let gone = ap (λ b. sum_in (cond b None (slice_get (xs ++ n ∷ []) 0))) h in
      omega (arith, rest, gone, sum-popped (xs ++ n ∷ []), sum-behind xs n)

  -- of one more record, and of the one that it pushes out
  pub sum-pushed : (cap : ℕ) (xs : List E) (n : E) → cap ≡ 64 → length xs ≤ cap
      → sum_by c (keep_last cap (xs ++ n ∷ [])) + sum_in (cond (nat_lt (length xs) cap) None (slice_get (xs ++ n ∷ []) 0)) ≡ sum_by c xs + c n
  sum-pushed cap xs n e h = by (nat_lt (length xs) cap) refl
    where
      few : (m cap : ℕ) → true ≡ nat_lt m cap → m < cap
      few m cap h = grind (arith, nat_tests)

      full : (m cap : ℕ) → false ≡ nat_lt m cap → m ≤ cap → m ≡ cap
      full m cap h within = grind (arith, nat_tests)

      by : (b : Bool) → b ≡ nat_lt (length xs) cap
          → sum_by c (keep_last cap (xs ++ n ∷ [])) + sum_in (cond (nat_lt (length xs) cap) None (slice_get (xs ++ n ∷ []) 0)) ≡ sum_by c xs + c n
      by true is = none-out cap xs n (length (xs ++ n ∷ []) - cap) (omega (arith, length-append xs (n ∷ []), few (length xs) cap is)) (sym is)
      by false is = one-out cap xs n (length (xs ++ n ∷ []) - cap) (omega (arith, length-append xs (n ∷ []), full (length xs) cap is h, e)) (sym is)

  -- a bound of each bounds the sum
  pub sum-bound : (xs : List E) → ((x : E) → c x ≤ 65537) → sum_by c xs ≤ length xs * 65537
  sum-bound [] h = omega arith
  sum-bound (x ∷ xs) h = omega (arith, sum-first c x xs, h x, sum-bound xs h)

module _ {A : Type 0} (weight : A → ℕ) where
  -- a weight, but no more than one above the limit
  abbrev cut : A → ℕ
  cut x = min (weight x) 65537

  -- counted weights are no more than weights
  pub counts-less : (xs : List A) → sum_by cut xs ≤ sum_by weight xs
  counts-less [] = omega arith
  counts-less (x ∷ xs) = omega (arith, sum-first cut x xs, sum-first weight x xs, counts-less xs)

  -- and as much, within the limit
  pub counts-all : (xs : List A) → sum_by cut xs ≤ 65536 → sum_by weight xs ≡ sum_by cut xs
  counts-all [] h = refl
  counts-all (x ∷ xs) h =
      let first = sum-first cut x xs in
      let rest = counts-all xs (omega (arith, first, h)) in
      omega (arith, first, h, sum-first weight x xs, rest)
