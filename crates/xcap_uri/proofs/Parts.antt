-- Parts of printed names: each has no slash in it, and decodes to what it was printed from.
use Rattle.std.proofs.Common.{◌≡◌, ℕ, ◌<◌, ◌/◌, ◌%◌, Bool, true, false, not, ◌&&◌, ◌==◌, List, [], ◌∷◌, ◌++◌, Some, None, bytes_eq, encode_utf8_all, refl, sym, ap, ◌∙◌, arith}
use Rattle.std.proofs.lemmas.Bool.{agree_below, agree_below_at, and_from, and_parts, ltb-true}
use Rattle.std.specs.Char.{is_ascii, is_ascii_hexdigit}
use Rattle.std.specs.Cmp.Lexicographic.{bytes_decides}
use Rattle.std.specs.Fmt.{digit_glyph}
use Rattle.std.specs.Str.{all_scalars}
use Rattle.percent_encoding.specs.Percent.{percent_decode, percent_encode_byte}
use Rattle.doc_names.specs.PercentEscapes.{escape_octets, escape_octet, escape_part, is_pchar}
use Rattle.doc_names.proofs.OctetPrints.{parts_decoded}
use Rattle.xcap_uri.specs.Delimiters.{front_before, rest_after}
use Rattle.xcap_uri.specs.Escapes.{has_complete_escapes}
use Rattle.xcap_uri.specs.PrintedNames.{parts_decode_to, part_decodes_to}
use Rattle.xcap_uri.proofs.Octets.{octets}

-- ---- cuts at slashes

-- octets that are no slashes
abbrev pub has_no_slash : List ℕ → Bool
has_no_slash [] = true
has_no_slash (b ∷ bs) = not (b == 47) && has_no_slash bs

not_true : (t : Bool) → not t ≡ true → t ≡ false
not_true true h = sym h
not_true false h = refl

other : (b : ℕ) (bs : List ℕ) → has_no_slash (b ∷ bs) ≡ true → (b == 47) ≡ false
other b bs h = not_true (b == 47) (and_parts (not (b == 47)) (has_no_slash bs) h).0

others : (b : ℕ) (bs : List ℕ) → has_no_slash (b ∷ bs) ≡ true → has_no_slash bs ≡ true
others b bs h = (and_parts (not (b == 47)) (has_no_slash bs) h).1

before_slash : (part rest : List ℕ) → has_no_slash part ≡ true → front_before 47 (part ++ 47 ∷ rest) ≡ part
before_slash [] rest h = refl
before_slash (b ∷ bs) rest h = rw (other b bs h) (ap (λ (l : List ℕ). b ∷ l) (before_slash bs rest (others b bs h)))

behind_slash : (part rest : List ℕ) → has_no_slash part ≡ true → rest_after 47 (part ++ 47 ∷ rest) ≡ Some rest
behind_slash [] rest h = refl
behind_slash (b ∷ bs) rest h = rw (other b bs h) (behind_slash bs rest (others b bs h))

before_none : (part : List ℕ) → has_no_slash part ≡ true → front_before 47 part ≡ part
before_none [] h = refl
before_none (b ∷ bs) h = rw (other b bs h) (ap (λ (l : List ℕ). b ∷ l) (before_none bs (others b bs h)))

behind_none : (part : List ℕ) → has_no_slash part ≡ true → rest_after 47 part ≡ None
behind_none [] h = refl
behind_none (b ∷ bs) h = rw (other b bs h) (behind_none bs (others b bs h))

-- ---- parts one after the other

pub last_part : (octets part : List ℕ) → has_no_slash part ≡ true → part_decodes_to octets part ≡ true → parts_decode_to (octets ∷ []) (Some part) ≡ true
last_part octets part free is =
    ap (λ (p : List ℕ). part_decodes_to octets p && parts_decode_to [] (rest_after 47 part)) (before_none part free)
    ∙ and_from (part_decodes_to octets part) (parts_decode_to [] (rest_after 47 part)) is (ap (parts_decode_to []) (behind_none part free))

pub one_more_part : (octets part rest : List ℕ) (all : List (List ℕ)) → has_no_slash part ≡ true → part_decodes_to octets part ≡ true → parts_decode_to all (Some rest) ≡ true
    → parts_decode_to (octets ∷ all) (Some (part ++ 47 ∷ rest)) ≡ true
one_more_part octets part rest all free is more =
    ap (λ (p : List ℕ). part_decodes_to octets p && parts_decode_to all (rest_after 47 (part ++ 47 ∷ rest))) (before_slash part rest free)
    ∙ and_from (part_decodes_to octets part) (parts_decode_to all (rest_after 47 (part ++ 47 ∷ rest))) is (ap (parts_decode_to all) (behind_slash part rest free) ∙ more)

-- ---- what is escaped

not_false : (t : Bool) → (true && not t) ≡ false → t ≡ true
not_false true h = refl
not_false false h = sym h

no_slash_append : (u v : List ℕ) → has_no_slash u ≡ true → has_no_slash v ≡ true → has_no_slash (u ++ v) ≡ true
no_slash_append [] v a b = b
no_slash_append (c ∷ u) v a b =
    let both = and_parts (not (c == 47)) (has_no_slash u) a in
    and_from (not (c == 47)) (has_no_slash (u ++ v)) both.0 (no_slash_append u v both.1 b)

-- what every plain octet is, and every digit
module _ (p : ℕ → Bool) where
  plain_is : agree_below (λ b. is_pchar b && not (p b)) (λ b. false) 128 ≡ true → (b : ℕ) → is_pchar b ≡ true → p b ≡ true
  plain_is table b h =
      let small = ltb-true b 128 (and_parts (is_ascii b) _ h).0 in
      not_false (p b) (rw h at (agree_below_at (λ c. is_pchar c && not (p c)) (λ c. false) 128 b table small))

  digit_is : agree_below (λ n. p (digit_glyph true n)) (λ n. true) 16 ≡ true → (n : ℕ) → n < 16 → p (digit_glyph true n) ≡ true
  digit_is table n small = agree_below_at (λ k. p (digit_glyph true k)) (λ k. true) 16 n table small

abbrev no_slash : ℕ → Bool
no_slash b = not (b == 47)

octet_free : (b : ℕ) (t : Bool) → is_pchar b ≡ t → has_no_slash (escape_octet is_pchar b) ≡ true
unfolding percent_encode_byte
octet_free b true h = rw (h, plain_is no_slash refl b h) refl
octet_free b false h = rw (h, digit_is no_slash refl (b / 16 % 16) (omega arith), digit_is no_slash refl (b % 16) (omega arith)) refl

free : (bs : List ℕ) → has_no_slash (escape_octets is_pchar bs) ≡ true
free [] = refl
free (b ∷ bs) = no_slash_append (escape_octet is_pchar b) (escape_octets is_pchar bs) (octet_free b (is_pchar b) refl) (free bs)

-- ---- escapes are complete

past_other : (b : ℕ) (rest : List ℕ) → (b == 37) ≡ false → has_complete_escapes (b ∷ rest) ≡ has_complete_escapes rest
past_other b [] h = rw h refl
past_other b (c ∷ []) h = rw h refl
past_other b (c ∷ d ∷ rest) h = rw h refl

no_percent : (b : ℕ) → is_pchar b ≡ true → (b == 37) ≡ false
no_percent b h = not_true (b == 37) (plain_is (λ c. not (c == 37)) refl b h)

whole_octet : (b : ℕ) (rest : List ℕ) (t : Bool) → is_pchar b ≡ t → has_complete_escapes rest ≡ true → has_complete_escapes (escape_octet is_pchar b ++ rest) ≡ true
unfolding percent_encode_byte
whole_octet b rest true h e = rw h (past_other b rest (no_percent b h) ∙ e)
whole_octet b rest false h e =
    rw h (rw (digit_is is_ascii_hexdigit refl (b / 16 % 16) (omega arith), digit_is is_ascii_hexdigit refl (b % 16) (omega arith)) e)

whole : (bs : List ℕ) → has_complete_escapes (escape_octets is_pchar bs) ≡ true
whole [] = refl
whole (b ∷ bs) = whole_octet b (escape_octets is_pchar bs) (is_pchar b) refl (whole bs)

-- ---- printed parts

pub printed_free : (text : List ℕ) → has_no_slash (escape_part text) ≡ true
printed_free text = free (encode_utf8_all text)

pub printed_stands : (text : List ℕ) → all_scalars text ≡ true → part_decodes_to (encode_utf8_all text) (escape_part text) ≡ true
printed_stands text h =
    and_from (has_complete_escapes (escape_part text)) (bytes_eq (percent_decode (escape_part text)) (encode_utf8_all text)) (whole (encode_utf8_all text))
    ((bytes_decides (percent_decode (escape_part text)) (encode_utf8_all text)).1 (parts_decoded (encode_utf8_all text) (octets text h)))

pub word_stands : (word : List ℕ) → has_complete_escapes word ≡ true → percent_decode word ≡ word → part_decodes_to word word ≡ true
word_stands word whole same = and_from (has_complete_escapes word) (bytes_eq (percent_decode word) word) whole ((bytes_decides (percent_decode word) word).1 same)
