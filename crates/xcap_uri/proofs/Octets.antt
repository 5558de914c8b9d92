-- Characters of Unicode are written in octets.
use Rattle.std.proofs.Common.{◌≡◌, ◌⊎◌, ℕ, ◌<◌, ◌≤◌, ◌+◌, ◌/◌, Bool, true, false, cond, ltb, List, [], ◌∷◌, All, encode_utf8_all, inl, inr, refl, arith}
use Rattle.std.proofs.lemmas.Bool.{and_parts, ltb-true}
use Rattle.std.proofs.lemmas.List.Elements.{All-append, All-cons, All-nil}
use Rattle.std.specs.Str.{all_scalars}
use lib.Utf8.{encode, next, scalar, scalar_cases}

abbrev IsOctet : ℕ → Type 0
IsOctet b = b < 256

below : (c : ℕ) → (c < 55296) ⊎ ((57344 ≤ c) × (c < 1114112)) → c < 1114112
below c (inl low) = omega (arith, low)
below c (inr high) = high.1

one : (a : ℕ) → a < 256 → All IsOctet (a ∷ [])
one a h = All-cons IsOctet a [] h (All-nil IsOctet)

next_octet : (bits : ℕ) → next bits < 256
next_octet bits = omega arith

either : (t : Bool) (xs ys : List ℕ) → (t ≡ true → All IsOctet xs) → (t ≡ false → All IsOctet ys) → All IsOctet (cond t xs ys)
either true xs ys p q = p refl
either false xs ys p q = q refl

encoded : (c : ℕ) → c < 1114112 → All IsOctet (encode c)
unfolding encode
encoded c low =
    let last : All IsOctet (next c ∷ []) = one (next c) (next_octet c) in
    let two : All IsOctet (next (c / 64) ∷ next c ∷ []) = All-cons IsOctet (next (c / 64)) (next c ∷ []) (next_octet (c / 64)) last in
    let three : All IsOctet (next (c / 4096) ∷ next (c / 64) ∷ next c ∷ []) = All-cons IsOctet (next (c / 4096)) (next (c / 64) ∷ next c ∷ []) (next_octet (c / 4096)) two in
    either (ltb c 128) _ _ (λ e. one c (let small = ltb-true c 128 e in omega (arith, small)))
    (λ _. either (ltb c 2048) _ _ (λ e. All-cons IsOctet (192 + c / 64) (next c ∷ []) (let small = ltb-true c 2048 e in omega (arith, small)) last)
    (λ _. either (ltb c 65536) _ _ (λ e. All-cons IsOctet (224 + c / 4096) (next (c / 64) ∷ next c ∷ []) (let small = ltb-true c 65536 e in omega (arith, small)) two)
    (λ _. All-cons IsOctet (240 + c / 262144) (next (c / 4096) ∷ next (c / 64) ∷ next c ∷ []) (omega (arith, low)) three)))

pub octets : (text : List ℕ) → all_scalars text ≡ true → All IsOctet (encode_utf8_all text)
octets [] h = All-nil IsOctet
octets (c ∷ text) h =
    let both = and_parts (scalar c) (all_scalars text) h in
    All-append IsOctet (encode c) (encode_utf8_all text) (encoded c (below c (scalar_cases c both.0))) (octets text both.1)
