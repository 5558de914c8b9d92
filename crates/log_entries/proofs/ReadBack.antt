-- An entry that was written is read again, whatever follows it.
use Rattle.std.proofs.Common.{◌≡◌, ℕ, ◌+◌, ◌^◌, ◌<◌, ◌≤◌, List, ◌++◌, length, take, drop, ltb, false, Some, refl, ap, ◌∙◌, append_assoc, arith, eq-eqb}
use Rattle.std.specs.Int.{w32, w64, from_be_bytes, to_be_bytes}
use Rattle.std.proofs.lemmas.Bool.{le-ltb}
use Rattle.std.proofs.lemmas.List.{take_at, drop_at, length-append}
use Rattle.std.proofs.lemmas.Nat.{from_be_bytes-to_be_bytes_4, from_be_bytes-to_be_bytes_8}
use Rattle.std.proofs.lemmas.Slice.Eq.{bytes_eq-Decides}
use Rattle.log_entries.specs.Checksums.{checksum}
use Rattle.log_entries.specs.Entries.{Entry, FitsEntryForm, entry_body, entry_bytes, entry_of_length, entry_at, stated_body}

pub sum_fits : (secret bytes : List ℕ) → checksum secret bytes < 2 ^ 64
unfolding checksum
sum_fits secret bytes = omega arith

module _ (mark : List ℕ) (marked : length mark ≡ 8) (e : Entry) (fits : FitsEntryForm e) (rest : List ℕ) where
  abbrev size : List ℕ
  size = to_be_bytes w32 (length e.content)

  abbrev sum : List ℕ
  sum = to_be_bytes w64 (checksum mark (entry_body e))

  abbrev number : List ℕ
  number = to_be_bytes w64 e.number

  abbrev all : List ℕ
  all = entry_bytes mark e ++ rest

  at_8 : all ≡ mark ++ (size ++ (sum ++ (entry_body e ++ rest)))
  at_8 = simp append_assoc

  at_12 : all ≡ (mark ++ size) ++ (sum ++ (entry_body e ++ rest))
  at_12 = simp append_assoc

  at_20 : all ≡ (mark ++ (size ++ sum)) ++ (entry_body e ++ rest)
  at_20 = simp append_assoc

  len_12 : length (mark ++ size) ≡ 12
  len_12 = omega (arith, length-append mark size, marked)

  len_20 : length (mark ++ (size ++ sum)) ≡ 20
  len_20 = omega (arith, length-append mark (size ++ sum), marked)

  len_body : length (entry_body e) ≡ 8 + length e.content
  len_body = omega (arith, length-append number e.content)

  len_all : length (entry_bytes mark e) ≡ 28 + length e.content
  len_all = omega (arith, length-append mark (size ++ (sum ++ entry_body e)), length-append size (sum ++ entry_body e), length-append sum (entry_body e), len_body, marked)

  long : (n : ℕ) → n ≤ 28 + length e.content → ltb (length all) n ≡ false
  long n le = le-ltb _ _ (omega (arith, le, length-append (entry_bytes mark e) rest, len_all))

  mark_is : take 8 all ≡ mark
  mark_is = ap (λ (l : List ℕ). take 8 l) at_8 ∙ take_at mark (size ++ (sum ++ (entry_body e ++ rest))) 8 marked

  size_is : from_be_bytes w32 (take 4 (drop 8 all)) ≡ length e.content
  size_is =
      ap (λ (l : List ℕ). from_be_bytes w32 (take 4 (drop 8 l))) at_8
      ∙ ap (λ (l : List ℕ). from_be_bytes w32 (take 4 l)) (drop_at mark (size ++ (sum ++ (entry_body e ++ rest))) 8 marked)
      ∙ ap (λ (l : List ℕ). from_be_bytes w32 l) (take_at size (sum ++ (entry_body e ++ rest)) 4 refl)
      ∙ from_be_bytes-to_be_bytes_4 (length e.content) fits.content

  sum_is : from_be_bytes w64 (take 8 (drop 12 all)) ≡ checksum mark (entry_body e)
  sum_is =
      ap (λ (l : List ℕ). from_be_bytes w64 (take 8 (drop 12 l))) at_12
      ∙ ap (λ (l : List ℕ). from_be_bytes w64 (take 8 l)) (drop_at (mark ++ size) (sum ++ (entry_body e ++ rest)) 12 len_12)
      ∙ ap (λ (l : List ℕ). from_be_bytes w64 l) (take_at sum (entry_body e ++ rest) 8 refl)
      ∙ from_be_bytes-to_be_bytes_8 (checksum mark (entry_body e)) (sum_fits mark (entry_body e))

  body_is : stated_body all (length e.content) ≡ entry_body e
  body_is =
      ap (λ (l : List ℕ). take (8 + length e.content) (drop 20 l)) at_20
      ∙ ap (λ (l : List ℕ). take (8 + length e.content) l) (drop_at (mark ++ (size ++ sum)) (entry_body e ++ rest) 20 len_20)
      ∙ take_at (entry_body e) rest (8 + length e.content) len_body

  number_is : from_be_bytes w64 (take 8 (entry_body e)) ≡ e.number
  number_is = ap (λ (l : List ℕ). from_be_bytes w64 l) (take_at number e.content 8 refl) ∙ from_be_bytes-to_be_bytes_8 e.number fits.number

  content_is : drop 8 (entry_body e) ≡ e.content
  content_is = drop_at number e.content 8 refl

  rest_is : drop (28 + length e.content) all ≡ rest
  rest_is = drop_at (entry_bytes mark e) rest (28 + length e.content) len_all

  of_length : entry_of_length mark all (length e.content) ≡ Some (e, rest)
  of_length =
      rw (
        long (28 + length e.content) (omega arith),
        sum_is,
        body_is,
        eq-eqb (checksum mark (entry_body e)) (checksum mark (entry_body e)) refl,
        number_is,
        content_is,
        rest_is,
      ) refl

  pub entry_again : entry_at mark (entry_bytes mark e ++ rest) ≡ Some (e, rest)
  unfolding entry_at
  entry_again =
      rw (
        long 28 (omega arith),
        mark_is,
        (bytes_eq-Decides mark mark).1 refl,
        size_is,
      ) of_length

  pub entry_length : length (entry_bytes mark e) ≡ 28 + length e.content
  entry_length = len_all
