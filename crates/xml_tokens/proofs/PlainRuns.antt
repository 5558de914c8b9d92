-- Runs that are read as themselves.
use Rattle.std.proofs.Common.{◌≡◌, ℕ, ◌≤◌, Bool, true, false, List, [], ◌∷◌, ◌&&◌, ◌||◌, refl, ap, arith}
use Rattle.std.proofs.lemmas.Bool.{eqb-true, leb-true}
use Rattle.std.specs.List.{list_all}
use Rattle.std.specs.Prelude.{nat_eq, nat_le, not}
use Rattle.xml_tokens.specs.Values.{normalize_line_ends, normalized_raw}
use Rattle.xml_tokens.specs.readers.CharacterRuns.{is_not_return, is_not_control}

pub plain_lines : (run : List ℕ) → list_all is_not_return run ≡ true → normalize_line_ends run ≡ run
plain_lines [] h = refl
plain_lines (c ∷ cs) h = one (nat_eq c 13) refl h (plain_lines cs)
  where
    one : (b : Bool) → nat_eq c 13 ≡ b → (not b && list_all is_not_return cs) ≡ true → (list_all is_not_return cs ≡ true → normalize_line_ends cs ≡ cs) → normalize_line_ends (c ∷ cs) ≡ c ∷ cs
    one true e k more = absurd cc
    one false e k more = rw e (ap (λ (z : List ℕ). c ∷ z) (more k))

high_by : (c : ℕ) → 32 ≤ c → (b : Bool) → nat_eq c 13 ≡ b → b ≡ false
high_by c h true e = let k = eqb-true c 13 e in absurd (omega (arith, h, k))
high_by c h false e = refl

blank_by : (c : ℕ) → 32 ≤ c → (a b : Bool) → nat_eq c 9 ≡ a → nat_eq c 10 ≡ b → (a || b) ≡ false
blank_by c h true b e f = let k = eqb-true c 9 e in absurd (omega (arith, h, k))
blank_by c h false true e f = let k = eqb-true c 10 f in absurd (omega (arith, h, k))
blank_by c h false false e f = refl

pub smooth_raw : (run : List ℕ) → list_all is_not_control run ≡ true → normalized_raw run ≡ run
smooth_raw [] h = refl
smooth_raw (c ∷ cs) h = one (nat_le 32 c) refl h (smooth_raw cs)
  where
    one : (b : Bool) → nat_le 32 c ≡ b → (b && list_all is_not_control cs) ≡ true → (list_all is_not_control cs ≡ true → normalized_raw cs ≡ cs) → normalized_raw (c ∷ cs) ≡ c ∷ cs
    one true e k more =
        let le : 32 ≤ c = leb-true 32 c e in
        rw (high_by c le (nat_eq c 13) refl) (rw (blank_by c le (nat_eq c 9) (nat_eq c 10) refl refl) (ap (λ (z : List ℕ). c ∷ z) (more k)))
    one false e k more = absurd cc
