-- Runs whose first character has its own class: names, digits, required white space.
use Rattle.std.proofs.Common.{◌≡◌, ℕ, ◌<◌, ◌≤◌, Bool, true, false, ◌||◌, List, [], ◌∷◌, length, Ok, Err, refl, sym, arith}
use Rattle.std.specs.Prelude.{nat_eq}
use Rattle.std.proofs.lemmas.Bool.{eqb-true, lt-leb, ne_eqb, or_left, or_right}
use Rattle.std.specs.Int.{is_in_range as within}
use Rattle.xml_grammar.specs.TextReading.{Syntax, first_char_is, take_while, drop_while}
use Rattle.xml_grammar.specs.readers.RuleReaders.{read_name_rule}
use Rattle.xml_names.specs.Characters.{is_name_start, is_non_start_char, is_name_char}
use Rattle.xml_tokens.specs.declared.fault_kind.FaultKind.{FaultKind}
use Rattle.xml_tokens.specs.readers.CharacterRuns.{is_plain_in_name}
use Rattle.xml_tokens.proofs.RawLetters.{small_in_name}

module _ (first others : ℕ → Bool) (both : (c : ℕ) → first c ≡ true → others c ≡ true) where
  pub run_read : (text : List ℕ) → first_char_is first text ≡ true → read_name_rule {Kind = FaultKind} first others text ≡ Ok (take_while others text, drop_while others text)
  run_read [] h = absurd cc
  run_read (c ∷ cs) h = rw (h, both c h) refl

  pub run_some : (text : List ℕ) → first_char_is first text ≡ true → 0 < length (take_while others text)
  run_some [] h = absurd cc
  run_some (c ∷ cs) h = rw (both c h) (omega arith)

pub run_unread : (first others : ℕ → Bool) (text : List ℕ) → first_char_is first text ≡ false → read_name_rule {Kind = FaultKind} first others text ≡ Err (Syntax text)
run_unread first others [] h = refl
run_unread first others (c ∷ cs) h = rw h refl

-- a character that begins a name is a name character
pub start_in_name : (c : ℕ) → is_name_start c ≡ true → is_name_char c ≡ true
start_in_name c h = or_left (is_name_start c) (is_non_start_char c) h

digit_in_name : (c : ℕ) → within 48 57 c ≡ true → is_name_char c ≡ true
digit_in_name c h = or_right (is_name_start c) (is_non_start_char c) (rw h (rw (by (nat_eq c 45) (nat_eq c 46)) refl))
  where
    by : (a b : Bool) → ((a || b) || true) ≡ true
    by true b = refl
    by false true = refl
    by false false = refl

capital_in_name : (c : ℕ) → within 65 90 c ≡ true → is_name_char c ≡ true
capital_in_name c h = or_left (is_name_start c) (is_non_start_char c) (rw h refl)

-- no other ASCII character is one
other_name : (c : ℕ) → c ≤ 127 → nat_eq c 45 ≡ false → nat_eq c 46 ≡ false → within 48 57 c ≡ false → within 97 122 c ≡ false → within 65 90 c ≡ false → nat_eq c 95 ≡ false → is_name_char c ≡ false
other_name c low d e f g h i =
    rw (d, e, f, g, h, i)
    (rw (lt-leb 192 c (omega (arith, low)), lt-leb 216 c (omega (arith, low)), lt-leb 248 c (omega (arith, low)), lt-leb 880 c (omega (arith, low)))
    (rw (lt-leb 895 c (omega (arith, low)), lt-leb 8204 c (omega (arith, low)), lt-leb 8304 c (omega (arith, low)), lt-leb 11264 c (omega (arith, low)))
    (rw (lt-leb 12289 c (omega (arith, low)), lt-leb 63744 c (omega (arith, low)), lt-leb 65008 c (omega (arith, low)), lt-leb 65536 c (omega (arith, low)))
    (rw (ne_eqb c 183 (λ z. omega (arith, z, low)), lt-leb 768 c (omega (arith, low)), lt-leb 8255 c (omega (arith, low))) refl))))

name_by : (c : ℕ) (a b d e f g : Bool) → c ≤ 127 → nat_eq c 45 ≡ a → nat_eq c 46 ≡ b → within 48 57 c ≡ d → within 97 122 c ≡ e → within 65 90 c ≡ f → nat_eq c 95 ≡ g → (((((a || b) || d) || e) || f) || g) ≡ is_name_char c
name_by c true b d e f g low i j k l m n = let z = eqb-true c 45 i in rw z refl
name_by c false true d e f g low i j k l m n = let z = eqb-true c 46 j in rw z refl
name_by c false false true e f g low i j k l m n = sym (digit_in_name c k)
name_by c false false false true f g low i j k l m n = sym (small_in_name c l)
name_by c false false false false true g low i j k l m n = sym (capital_in_name c m)
name_by c false false false false false true low i j k l m n = let z = eqb-true c 95 n in rw z refl
name_by c false false false false false false low i j k l m n = sym (other_name c low i j k l m n)

-- the name characters of ASCII are the plain ones
pub ascii_in_name : (c : ℕ) → c ≤ 127 → is_plain_in_name c ≡ is_name_char c
ascii_in_name c low = name_by c (nat_eq c 45) (nat_eq c 46) (within 48 57 c) (within 97 122 c) (within 65 90 c) (nat_eq c 95) low refl refl refl refl refl refl
