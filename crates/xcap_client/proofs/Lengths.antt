-- A number that digits write, one digit more, kept below the limit of 64 bits.
use Rattle.std.proofs.Common.{◌≡◌, ℕ, ◌+◌, ◌-◌, ◌*◌, ◌^◌, ◌<◌, min, List, [], ◌∷◌, ◌++◌, length, get_or, take, refl, ap, ◌∙◌, arith}
use Rattle.std.proofs.lemmas.List.{take_more}
use Rattle.std.proofs.lemmas.Str.{digit_value_digit}
use Rattle.std.specs.Char.{digit_value}
use Rattle.std.specs.Int.{IsInRange}
use Rattle.std.specs.Str.Parse.{digits_value, digits_value_after}
use Rattle.xcap_client.specs.BodyLengths.{capped_value}

digits_value-push : (n : ℕ) (xs : List ℕ) (b : ℕ) → digits_value_after 10 n (xs ++ b ∷ []) ≡ digits_value_after 10 n xs * 10 + digit_value b
digits_value-push n [] b = refl
digits_value-push n (x ∷ xs) b = digits_value-push (n * 10 + digit_value x) xs b

pub number_more : (digits : List ℕ) (i value : ℕ) → i < length digits → IsInRange 48 57 (get_or digits i 0) → value ≡ capped_value (take i digits)
    → min (min (value * 10) (2 ^ 64 - 1) + (get_or digits i 0 - 48)) (2 ^ 64 - 1) ≡ capped_value (take (i + 1) digits)
number_more digits i value inside is same =
    let b : ℕ = get_or digits i 0 in
    let more : digits_value 10 (take (i + 1) digits) ≡ digits_value 10 (take i digits) * 10 + digit_value b = ap (digits_value 10) (take_more digits i 0 inside) ∙ digits_value-push 0 (take i digits) b in
    let low : digit_value b + 48 ≡ b = digit_value_digit b is in
    omega (arith, more, low, same)
