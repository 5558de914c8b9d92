-- White space spells itself.
use Rattle.std.proofs.Common.{◌≡◌, ℕ, ◌<◌, ◌≤◌, Bool, true, false, List, [], ◌∷◌, chars, IsUtf8, refl, sym, ◌∙◌, arith}
use Rattle.std.specs.Prelude.{nat_lt}
use Rattle.std.specs.List.{list_all}
use Rattle.std.specs.Str.{IsAscii}
use Rattle.std.proofs.lemmas.Bool.{and_parts, ltb-false, ltb-true, ne_eqb, true≢false}
use Rattle.std.proofs.lemmas.Str.{encodes-chars, encodes-IsAscii}
use Rattle.std.proofs.lemmas.Str.Ascii.{IsAscii-nil, IsAscii-cons}
use Rattle.xml_names.specs.Characters.{is_space}

no_space : (c : ℕ) → 128 ≤ c → is_space c ≡ false
no_space c high = rw (ne_eqb c 32 (λ e. omega (arith, e, high)), ne_eqb c 9 (λ e. omega (arith, e, high)), ne_eqb c 13 (λ e. omega (arith, e, high)), ne_eqb c 10 (λ e. omega (arith, e, high))) refl

space_low : (c : ℕ) → is_space c ≡ true → c < 128
space_low c is = by (nat_lt c 128) refl
  where
    by : (z : Bool) → nat_lt c 128 ≡ z → c < 128
    by true e = ltb-true c 128 e
    by false e = absurd (true≢false (sym is ∙ no_space c (ltb-false c 128 e)))

all_low : (cs : List ℕ) → list_all is_space cs ≡ true → IsAscii cs
all_low [] h = IsAscii-nil
all_low (c ∷ cs) h = let both = and_parts (is_space c) (list_all is_space cs) h in IsAscii-cons c cs (space_low c both.0) (all_low cs both.1)

pub space_bytes : (bs : List ℕ) → IsUtf8 bs → list_all is_space (chars bs) ≡ true → chars bs ≡ bs
space_bytes bs u h = sym (encodes-IsAscii (chars bs) (all_low (chars bs) h)) ∙ encodes-chars bs u
