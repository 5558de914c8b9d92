-- Where a text is cut: an ASCII byte at the front is the first character, and before a suffix ends
-- a character.
use Rattle.std.proofs.Common.{◌≡◌, ℕ, zero, suc, ◌+◌, ◌-◌, ◌<◌, ◌≤◌, List, [], ◌∷◌, ◌++◌, length, take, drop, get_or, chars, encode_utf8_all, IsUtf8, refl, sym, ap, subst, ◌∙◌, take-append-drop, length-append, arith}
use Rattle.std.specs.Str.{IsAscii, IsCharBoundary}
use Rattle.std.proofs.lemmas.List.{drop_at, length-take, take_min}
use Rattle.std.proofs.lemmas.Str.{chars-nil, chars-append, chars-IsAscii, encodes-append, encodes-chars, IsUtf8-from_ascii, IsUtf8-take, IsCharBoundary-at_seam}
use Rattle.std.proofs.lemmas.Str.Ascii.{IsAscii-nil, IsAscii-cons}
use Rattle.xml_grammar.specs.readers.Suffixes.{EndsWith}

ascii_one : (b : ℕ) → b < 128 → IsAscii (b ∷ [])
ascii_one b low = IsAscii-cons b [] low IsAscii-nil

pub ascii_first : (b : ℕ) (bs : List ℕ) → b < 128 → chars (b ∷ bs) ≡ b ∷ chars bs
ascii_first b bs low =
    let one = ascii_one b low in
    chars-append (b ∷ []) bs (IsUtf8-from_ascii (b ∷ []) one) ∙ ap (λ (z : List ℕ). z ++ chars bs) (chars-IsAscii (b ∷ []) one)

pub first_at : (bs : List ℕ) → 0 < length bs → get_or bs 0 0 < 128 → chars bs ≡ get_or bs 0 0 ∷ chars (drop 1 bs)
first_at [] some low = absurd (omega arith)
first_at (b ∷ bs) some low = ascii_first b bs low

pub none_first : (bs : List ℕ) → length bs ≡ 0 → chars bs ≡ []
none_first [] h = chars-nil
none_first (b ∷ bs) h = absurd (omega arith)

-- # Steps

-- one more character is passed
pub skip_more : (xs cs : List ℕ) (c left : ℕ) → xs ≡ c ∷ cs → 0 < left → drop (left - 1) cs ≡ drop left xs
skip_more xs cs c zero is some = absurd (omega arith)
skip_more xs cs c (suc n) is some = let k : n ≡ suc n - 1 = omega arith in subst (λ (m : ℕ). drop m cs ≡ drop (suc n) xs) k (sym (ap (drop (suc n)) is))

drop_nothing : (n : ℕ) (xs : List ℕ) → xs ≡ [] → drop n xs ≡ []
drop_nothing zero xs is = is
drop_nothing (suc n) xs is = ap (drop (suc n)) is

pub skip_none : (xs : List ℕ) (left : ℕ) → xs ≡ [] → xs ≡ drop left xs
skip_none xs left is = is ∙ sym (drop_nothing left xs is)

-- the first characters of a text, by their own number
pub first_ones : (taken xs : List ℕ) (n : ℕ) → taken ≡ take n xs → taken ≡ take (length taken) xs
first_ones taken xs n is = is ∙ sym (ap (λ (k : ℕ). take k xs) (ap length is ∙ length-take n xs) ∙ take_min n xs)

-- # A text and its suffixes

module _ (text rest : List ℕ) (u : IsUtf8 text) (v : IsUtf8 rest) (ends : EndsWith (chars text) (chars rest)) where
  seam : text ≡ encode_utf8_all ends.0 ++ rest
  seam = sym (encodes-chars text u) ∙ ap encode_utf8_all ends.1 ∙ encodes-append ends.0 (chars rest) ∙ ap (λ (z : List ℕ). encode_utf8_all ends.0 ++ z) (encodes-chars rest v)

  sizes : length text ≡ length (encode_utf8_all ends.0) + length rest
  sizes = ap length seam ∙ length-append (encode_utf8_all ends.0) rest

  pub end_shorter : length rest ≤ length text
  end_shorter = omega (arith, sizes)

  pub end_boundary : IsCharBoundary text (length text - length rest)
  end_boundary =
      let n : length (encode_utf8_all ends.0) ≡ length text - length rest = omega (arith, sizes) in
      subst (IsCharBoundary text) n (IsCharBoundary-at_seam text (encode_utf8_all ends.0) rest seam v)

  end_left : drop (length text - length rest) text ≡ rest
  end_left =
      let n : length text - length rest ≡ length (encode_utf8_all ends.0) = omega (arith, sizes) in
      rw n (ap (drop (length (encode_utf8_all ends.0))) seam ∙ drop_at (encode_utf8_all ends.0) rest (length (encode_utf8_all ends.0)) refl)

  pub end_whole : chars text ≡ chars (take (length text - length rest) text) ++ chars rest
  end_whole =
      let n = length text - length rest in
      ap chars (sym (take-append-drop n text)) ∙ chars-append (take n text) (drop n text) (IsUtf8-take text n u end_boundary)
      ∙ ap (λ (z : List ℕ). chars (take n text) ++ chars z) end_left
