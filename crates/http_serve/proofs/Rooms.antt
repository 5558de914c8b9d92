-- How many requests a machine can answer.
use Rattle.std.proofs.Common.{◌≡◌, ℕ, zero, suc, ◌+◌, ◌-◌, ◌*◌, ◌<◌, ◌≤◌, refl, subst, arith}

-- M is the type of the machine's states, and what can answer n + 1 requests can answer n.
module _ {M : Type 0} (Takes : M → ℕ → Type 0) (fewer : (machine : M) (n : ℕ) → Takes machine (suc n) → Takes machine n) where
  -- by any number
  by_some : (machine : M) (k n : ℕ) → Takes machine (k + n) → Takes machine n
  by_some machine zero n h = let e : zero + n ≡ n = omega arith in subst (λ (m : ℕ). Takes machine m) e h
  by_some machine (suc k) n h = let e : suc k + n ≡ suc (k + n) = omega arith in by_some machine k n (fewer machine (k + n) (subst (λ (m : ℕ). Takes machine m) e h))

  pub takes_less : (machine : M) (n most : ℕ) → n ≤ most → Takes machine most → Takes machine n
  takes_less machine n most le h =
      let is : most ≡ (most - n) + n = omega (arith, le) in
      by_some machine (most - n) n (subst (λ (k : ℕ). Takes machine k) is h)

  -- none is answered yet
  pub none_answered : (old : M) (before : ℕ) → before ≡ 0 → (n : ℕ) → Takes old (n + 1000) → Takes old (n + (1000 - before))
  none_answered old before is n h = let e : n + 1000 ≡ n + (1000 - before) = omega (arith, is) in subst (λ (k : ℕ). Takes old k) e h

  -- One more request of a connection was answered, of at most `MAX_REQUESTS`.
  pub one_answered : (old now next : M) (before after : ℕ) → before < 1000 → after ≡ before + 1 → ((n : ℕ) → Takes old (n + 1000) → Takes now (n + (1000 - before)))
      → ((n : ℕ) → Takes now (suc n) → Takes next n) → (n : ℕ) → Takes old (n + 1000) → Takes next (n + (1000 - after))
  one_answered old now next before after below is so_far one n h =
      let e : n + (1000 - before) ≡ suc (n + (1000 - after)) = omega (arith, below, is) in
      one (n + (1000 - after)) (subst (λ (k : ℕ). Takes now k) e (so_far n h))

  -- the last one
  pub last_answered : (old now next : M) (before : ℕ) → before < 1000 → ((n : ℕ) → Takes old (n + 1000) → Takes now (n + (1000 - before)))
      → ((n : ℕ) → Takes now (suc n) → Takes next n) → (n : ℕ) → Takes old (n + 1000) → Takes next n
  last_answered old now next before below so_far one n h =
      takes_less next n (n + (1000 - (before + 1))) (omega arith) (one_answered old now next before (before + 1) below refl so_far one n h)

  -- one more can be answered
  pub room_for_one : (old now : M) (before : ℕ) → before < 1000 → Takes old 1000 → ((n : ℕ) → Takes old (n + 1000) → Takes now (n + (1000 - before))) → Takes now 1
  room_for_one old now before below room so_far = takes_less now 1 (0 + (1000 - before)) (omega (arith, below)) (so_far 0 room)

  -- no connection was served yet
  pub room_at_first : (machine : M) (count : ℕ) → Takes machine (count * 1000) → Takes machine ((count - 0) * 1000)
  room_at_first machine count h = let e : count * 1000 ≡ (count - 0) * 1000 = omega arith in subst (λ (k : ℕ). Takes machine k) e h

  -- one more connection
  pub room_for_line : (now : M) (count before : ℕ) → before < count → Takes now ((count - before) * 1000) → Takes now 1000
  room_for_line now count before below h = takes_less now 1000 ((count - before) * 1000) (omega (arith, below)) h

  pub line_served : (now next : M) (count before : ℕ) → before < count → ((n : ℕ) → Takes now (n + 1000) → Takes next n) → Takes now ((count - before) * 1000) → Takes next ((count - (before + 1)) * 1000)
  line_served now next count before below one h =
      let e : (count - before) * 1000 ≡ (count - (before + 1)) * 1000 + 1000 = omega (arith, below) in
      one ((count - (before + 1)) * 1000) (subst (λ (k : ℕ). Takes now k) e h)
