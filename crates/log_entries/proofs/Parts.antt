-- An entry by its parts, as the code takes them.
use Rattle.std.proofs.Common.{◌≡◌, ℕ, ◌+◌, ◌-◌, ◌≤◌, List, ◌++◌, append_assoc, length, take, drop, ltb, false, Some, refl, sym, ap, ◌∙◌, arith, eq-eqb, length-drop}
use Rattle.std.specs.Int.{w64, from_be_bytes}
use Rattle.std.proofs.lemmas.Bool.{le-ltb}
use Rattle.std.proofs.lemmas.List.{take_all}
use Rattle.log_entries.specs.Checksums.{checksum}
use Rattle.log_entries.specs.Entries.{entry_of_length, stated_body}

pub all_after : (bytes : List ℕ) (n : ℕ) → take (length bytes - n) (drop n bytes) ≡ drop n bytes
all_after bytes n = take_all _ _ (omega (arith, length-drop n bytes))

-- the part after the checksum, as a slice
abbrev part : List ℕ → ℕ → List ℕ
part bytes n = take (28 + n - 20) (drop 20 bytes)

part_is : (bytes : List ℕ) (n : ℕ) → part bytes n ≡ stated_body bytes n
part_is bytes n = let same : 28 + n - 20 ≡ 8 + n = omega arith in ap (λ (k : ℕ). take k (drop 20 bytes)) same

pub of_parts : (mark bytes : List ℕ) (n number : ℕ) → 28 + n ≤ length bytes → checksum mark (part bytes n) ≡ from_be_bytes w64 (take 8 (drop 12 bytes)) → number ≡ from_be_bytes w64 (take 8 (part bytes n))
    → Some (record { number = number; content = take (length (part bytes n) - 8) (drop 8 (part bytes n)) }, take (length bytes - (28 + n)) (drop (28 + n) bytes)) ≡ entry_of_length mark bytes n
of_parts mark bytes n number long sum number_is =
    let short : ltb (length bytes) (28 + n) ≡ false = le-ltb _ _ long in
    let right = ap (checksum mark) (sym (part_is bytes n)) ∙ sum in
    rw (all_after (part bytes n) 8, all_after bytes (28 + n), number_is, part_is bytes n, short, eq-eqb (checksum mark (stated_body bytes n)) (from_be_bytes w64 (take 8 (drop 12 bytes))) right) refl

pub four_parts : (made mark size sum content a b d all : List ℕ) → a ≡ made ++ mark → b ≡ a ++ size → d ≡ b ++ sum → all ≡ d ++ content → all ≡ made ++ (mark ++ (size ++ (sum ++ content)))
four_parts made mark size sum content a b d all first second third fourth =
    fourth ∙ ap (λ (l : List ℕ). l ++ content) (third ∙ ap (λ (l : List ℕ). l ++ sum) (second ∙ ap (λ (l : List ℕ). l ++ size) first)) ∙ regrouped
  where
    regrouped : (((made ++ mark) ++ size) ++ sum) ++ content ≡ made ++ (mark ++ (size ++ (sum ++ content)))
    regrouped = simp append_assoc
