-- What comes next in a text, by its bytes.
use Rattle.std.proofs.Common.{◌≡◌, ℕ, ◌<◌, ◌≤◌, Bool, true, false, cond, ◌||◌, List, [], ◌∷◌, length, drop, get_or, chars, encode_utf8_all, IsUtf8, refl, sym, ap, subst, ◌∙◌, eq-eqb, arith}
use Rattle.std.specs.Prelude.{nat_eq, nat_le, nat_lt}
use Rattle.std.specs.Str.{IsCharBoundary}
use Rattle.std.specs.Int.{is_in_range as within}
use Rattle.std.proofs.lemmas.Bool.{and_right, eqb-true, lt-leb, ltb-false, ltb-true, ne_eqb, or_from, true≢false}
use Rattle.std.proofs.lemmas.Str.{byte_from_char, chars-nil, encodes-chars, IsCharBoundary-after_ascii}
use Rattle.xml_grammar.specs.TextReading.{first_char_is, starts_with_word}
use Rattle.xml_grammar.proofs.CursorLemmas.{ascii_first, first_at}

-- a test that passes ASCII characters alone
module _ (p : ℕ → Bool) (low : (c : ℕ) → 128 ≤ c → p c ≡ false) where
  wide_head : (b : ℕ) (bs cs : List ℕ) → encode_utf8_all cs ≡ b ∷ bs → 128 ≤ b → first_char_is p cs ≡ false
  wide_head b bs [] same high = refl
  wide_head b bs (c ∷ cs) same high = by (nat_lt c 128) refl
    where
      by : (z : Bool) → nat_lt c 128 ≡ z → p c ≡ false
      by true e =
          let small : c < 128 = ltb-true c 128 e in
          let first : b ≡ c = byte_from_char (b ∷ bs) (encode_utf8_all cs) c (sym same) small in
          absurd (omega (arith, high, first, small))
      by false e = low c (ltb-false c 128 e)

  pub head_by_bytes : (bs : List ℕ) → IsUtf8 bs → first_char_is p bs ≡ first_char_is p (chars bs)
  head_by_bytes [] u = sym (ap (first_char_is p) chars-nil)
  head_by_bytes (b ∷ bs) u = by (nat_lt b 128) refl
    where
      by : (z : Bool) → nat_lt b 128 ≡ z → p b ≡ first_char_is p (chars (b ∷ bs))
      by true e = sym (ap (first_char_is p) (ascii_first b bs (ltb-true b 128 e)))
      by false e =
          let high : 128 ≤ b = ltb-false b 128 e in
          low b high ∙ sym (wide_head b bs (chars (b ∷ bs)) (encodes-chars (b ∷ bs) u) high)

other_letter : (letter c : ℕ) → letter < 128 → 128 ≤ c → nat_eq c letter ≡ false
other_letter letter c low high = ne_eqb c letter (λ e. omega (arith, e, low, high))

pub letter_by_bytes : (letter : ℕ) (bs : List ℕ) → letter < 128 → IsUtf8 bs → first_char_is (λ c. nat_eq c letter) bs ≡ first_char_is (λ c. nat_eq c letter) (chars bs)
letter_by_bytes letter bs low u = head_by_bytes (λ c. nat_eq c letter) (λ c high. other_letter letter c low high) bs u

pub either_by_bytes : (one other : ℕ) (bs : List ℕ) → one < 128 → other < 128 → IsUtf8 bs → first_char_is (λ c. nat_eq c one || nat_eq c other) bs ≡ first_char_is (λ c. nat_eq c one || nat_eq c other) (chars bs)
either_by_bytes one other bs low lower u =
    head_by_bytes (λ c. nat_eq c one || nat_eq c other) (λ c high. or_from (nat_eq c one) (nat_eq c other) (other_letter one c low high) (other_letter other c lower high)) bs u

no_small : (c : ℕ) → 128 ≤ c → within 97 122 c ≡ false
no_small c high = and_right (nat_le 97 c) (nat_le c 122) (lt-leb c 122 (omega (arith, high)))

pub small_by_bytes : (bs : List ℕ) → IsUtf8 bs → first_char_is (within 97 122) bs ≡ first_char_is (within 97 122) (chars bs)
small_by_bytes bs u = head_by_bytes (within 97 122) no_small bs u

-- # A letter that comes next

first_byte : (letter : ℕ) (bs : List ℕ) → first_char_is (λ c. nat_eq c letter) bs ≡ true → (0 < length bs) × (get_or bs 0 0 ≡ letter)
first_byte letter [] h = absurd cc
first_byte letter (b ∷ bs) h = (omega arith, eqb-true b letter h)

module _ (letter : ℕ) (bs : List ℕ) (low : letter < 128) (is : first_char_is (λ c. nat_eq c letter) bs ≡ true) where
  first_is : (0 < length bs) × (get_or bs 0 0 ≡ letter)
  first_is = first_byte letter bs is

  small_first : get_or bs 0 0 < 128
  small_first = subst (λ (n : ℕ). n < 128) (sym first_is.1) low

  pub cut_behind : IsUtf8 bs → IsCharBoundary bs 1
  cut_behind u = IsCharBoundary-after_ascii bs 0 u first_is.0 small_first

  pub letter_first : chars bs ≡ letter ∷ chars (drop 1 bs)
  letter_first = first_at bs first_is.0 small_first ∙ ap (λ (z : ℕ). z ∷ chars (drop 1 bs)) first_is.1

-- # Words by their first letter

pub turned : (a b : ℕ) → nat_eq a b ≡ false → nat_eq b a ≡ false
turned a b h = ne_eqb b a (λ e. true≢false (sym (eq-eqb a b (sym e)) ∙ h))

pub starts_not : (letter : ℕ) (w text : List ℕ) → first_char_is (λ c. nat_eq c letter) text ≡ false → starts_with_word (letter ∷ w) text ≡ false
starts_not letter w [] h = refl
starts_not letter w (d ∷ text) h = rw (turned d letter h) refl

one_letter : (letter : ℕ) (text : List ℕ) → starts_with_word (letter ∷ []) text ≡ first_char_is (λ c. nat_eq c letter) text
one_letter letter [] = refl
one_letter letter (d ∷ text) = by (nat_eq d letter) refl
  where
    by : (b : Bool) → nat_eq d letter ≡ b → cond (nat_eq letter d) true false ≡ b
    by true e = rw (eq-eqb letter d (sym (eqb-true d letter e))) refl
    by false e = rw (turned d letter e) refl

pub starts_after_first : (first second : ℕ) (text rest : List ℕ) → text ≡ first ∷ rest → starts_with_word (first ∷ second ∷ []) text ≡ first_char_is (λ c. nat_eq c second) rest
starts_after_first first second text rest is = ap (starts_with_word (first ∷ second ∷ [])) is ∙ rw (eq-eqb first first refl) (one_letter second rest)
