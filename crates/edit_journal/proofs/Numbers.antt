-- Numbers whose bytes may break off.
use Rattle.std.proofs.Common.{◌≡◌, ℕ, ◌+◌, ◌*◌, ◌/◌, ◌%◌, ◌-◌, ◌<◌, ◌≤◌, ◌^◌, ◌⊎◌, inl, inr, List, [], ◌∷◌, ◌++◌, length, get_or, Ok, Err, refl, ap, ◌∙◌, arith}
use Rattle.std.specs.Int.{w16, w32, to_be_bytes}
use Rattle.edit_journal.specs.declared.field_parsers.FieldError.TheVariants.{Open, Wrong}
use Rattle.edit_journal.specs.inner.RecordParts.{ReadsPart, IsU32Between, IsU16Between, padded_u32, padded_u16}

-- every member is a byte
abbrev pub AreBytes : List ℕ → Type 0
AreBytes bytes = (i : ℕ) → get_or bytes i 0 < 256

-- a number in four bytes is between its values with the least and the greatest bytes in place of
-- missing ones
number_between : (bytes more rest : List ℕ) (value : ℕ) → value < 2 ^ 32 → bytes ++ more ≡ to_be_bytes w32 value ++ rest → (padded_u32 bytes 0 ≤ value) × (value ≤ padded_u32 bytes 255)
number_between [] more rest value fits e = (omega arith, omega arith)
number_between (a ∷ []) more rest value fits e =
    let p : a ≡ value / 16777216 % 256 = cc in
    (omega arith, omega arith)
number_between (a ∷ b ∷ []) more rest value fits e =
    let p : a ≡ value / 16777216 % 256 = cc in
    let q : b ≡ value / 65536 % 256 = cc in
    (omega arith, omega arith)
number_between (a ∷ b ∷ c ∷ []) more rest value fits e =
    let p : a ≡ value / 16777216 % 256 = cc in
    let q : b ≡ value / 65536 % 256 = cc in
    let r : c ≡ value / 256 % 256 = cc in
    (omega arith, omega arith)
number_between (a ∷ b ∷ c ∷ d ∷ bytes) more rest value fits e =
    let p : a ≡ value / 16777216 % 256 = cc in
    let q : b ≡ value / 65536 % 256 = cc in
    let r : c ≡ value / 256 % 256 = cc in
    let s : d ≡ value % 256 = cc in
    (omega arith, omega arith)

-- the number at the front
pub number_there : (bytes : List ℕ) (value : ℕ) (rest : List ℕ) → value < 2 ^ 32 → bytes ≡ to_be_bytes w32 value ++ rest → padded_u32 bytes 0 ≡ value
number_there [] value rest fits e = absurd (omega (arith, ap length e))
number_there (a ∷ []) value rest fits e = absurd (omega (arith, ap length e))
number_there (a ∷ b ∷ []) value rest fits e = absurd (omega (arith, ap length e))
number_there (a ∷ b ∷ c ∷ []) value rest fits e = absurd (omega (arith, ap length e))
number_there (a ∷ b ∷ c ∷ d ∷ bytes) value rest fits e =
    let p : a ≡ value / 16777216 % 256 = cc in
    let q : b ≡ value / 65536 % 256 = cc in
    let r : c ≡ value / 256 % 256 = cc in
    let s : d ≡ value % 256 = cc in
    omega arith

pub number_wrong : (bytes : List ℕ) (least most : ℕ) → most < 2 ^ 32 → (padded_u32 bytes 255 < least) ⊎ (most < padded_u32 bytes 0) → ReadsPart (λ n. n) (IsU32Between least most) bytes (Err Wrong)
number_wrong bytes least most fits out all value more rest is e =
    let between = number_between bytes more rest value (omega (arith, is.2)) (e ∙ ap (λ l. l ++ rest) is.0) in
    elim out [ inl low ↦ omega (arith, is.1, between.1) | inr high ↦ omega (arith, is.2, between.0) ]

pub number_whole : (bytes : List ℕ) (least most : ℕ) → AreBytes bytes → 4 ≤ length bytes → least ≤ padded_u32 bytes 255 → padded_u32 bytes 0 ≤ most → ReadsPart (λ n. n) (IsU32Between least most) bytes (Ok (padded_u32 bytes 0))
number_whole [] least most are long low high = absurd (omega arith)
number_whole (a ∷ []) least most are long low high = absurd (omega arith)
number_whole (a ∷ b ∷ []) least most are long low high = absurd (omega arith)
number_whole (a ∷ b ∷ c ∷ []) least most are long low high = absurd (omega arith)
number_whole (a ∷ b ∷ c ∷ d ∷ bytes) least most are long low high =
    let value : ℕ = a * 16777216 + (b * 65536 + (c * 256 + d)) in
    let p : a ≡ value / 16777216 % 256 = omega (arith, are 0, are 1, are 2, are 3) in
    let q : b ≡ value / 65536 % 256 = omega (arith, are 0, are 1, are 2, are 3) in
    let r : c ≡ value / 256 % 256 = omega (arith, are 0, are 1, are 2, are 3) in
    let s : d ≡ value % 256 = omega (arith, are 0, are 1, are 2, are 3) in
    (a ∷ b ∷ c ∷ d ∷ [], bytes, refl, ((λ i. p i ∷ q i ∷ r i ∷ s i ∷ []), low, high))

pub number_open : (bytes : List ℕ) (least most : ℕ) → AreBytes bytes → length bytes < 4 → least ≤ most → most < 2 ^ 32 → least ≤ padded_u32 bytes 255 → padded_u32 bytes 0 ≤ most → ReadsPart (λ n. n) (IsU32Between least most) bytes (Err Open)
number_open [] least most are short some fits low high =
    (to_be_bytes w32 least, least, omega arith, (refl, omega arith, some))
number_open (a ∷ []) least most are short some fits low high =
    let value : ℕ = a * 16777216 + (least - a * 16777216) in
    let p : a ≡ value / 16777216 % 256 = omega (arith, are 0) in
    (value / 65536 % 256 ∷ value / 256 % 256 ∷ value % 256 ∷ [], value, omega arith, ((λ i. p i ∷ value / 65536 % 256 ∷ value / 256 % 256 ∷ value % 256 ∷ []), omega arith, omega arith))
number_open (a ∷ b ∷ []) least most are short some fits low high =
    let value : ℕ = a * 16777216 + b * 65536 + (least - (a * 16777216 + b * 65536)) in
    let p : a ≡ value / 16777216 % 256 = omega (arith, are 0, are 1) in
    let q : b ≡ value / 65536 % 256 = omega (arith, are 0, are 1) in
    (value / 256 % 256 ∷ value % 256 ∷ [], value, omega arith, ((λ i. p i ∷ q i ∷ value / 256 % 256 ∷ value % 256 ∷ []), omega arith, omega arith))
number_open (a ∷ b ∷ c ∷ []) least most are short some fits low high =
    let value : ℕ = a * 16777216 + b * 65536 + c * 256 + (least - (a * 16777216 + b * 65536 + c * 256)) in
    let p : a ≡ value / 16777216 % 256 = omega (arith, are 0, are 1, are 2) in
    let q : b ≡ value / 65536 % 256 = omega (arith, are 0, are 1, are 2) in
    let r : c ≡ value / 256 % 256 = omega (arith, are 0, are 1, are 2) in
    (value % 256 ∷ [], value, omega arith, ((λ i. p i ∷ q i ∷ r i ∷ value % 256 ∷ []), omega arith, omega arith))
number_open (a ∷ b ∷ c ∷ d ∷ bytes) least most are short some fits low high = absurd (omega arith)

short_between : (bytes more rest : List ℕ) (value : ℕ) → value < 2 ^ 16 → bytes ++ more ≡ to_be_bytes w16 value ++ rest → (padded_u16 bytes 0 ≤ value) × (value ≤ padded_u16 bytes 255)
short_between [] more rest value fits e = (omega arith, omega arith)
short_between (a ∷ []) more rest value fits e =
    let p : a ≡ value / 256 % 256 = cc in
    (omega arith, omega arith)
short_between (a ∷ b ∷ bytes) more rest value fits e =
    let p : a ≡ value / 256 % 256 = cc in
    let q : b ≡ value % 256 = cc in
    (omega arith, omega arith)

pub short_wrong : (bytes : List ℕ) (least most : ℕ) → most < 2 ^ 16 → (padded_u16 bytes 255 < least) ⊎ (most < padded_u16 bytes 0) → ReadsPart (λ n. n) (IsU16Between least most) bytes (Err Wrong)
short_wrong bytes least most fits out all value more rest is e =
    let between = short_between bytes more rest value (omega (arith, is.2)) (e ∙ ap (λ l. l ++ rest) is.0) in
    elim out [ inl low ↦ omega (arith, is.1, between.1) | inr high ↦ omega (arith, is.2, between.0) ]

pub short_whole : (bytes : List ℕ) (least most : ℕ) → AreBytes bytes → 2 ≤ length bytes → least ≤ padded_u16 bytes 255 → padded_u16 bytes 0 ≤ most → ReadsPart (λ n. n) (IsU16Between least most) bytes (Ok (padded_u16 bytes 0))
short_whole [] least most are long low high = absurd (omega arith)
short_whole (a ∷ []) least most are long low high = absurd (omega arith)
short_whole (a ∷ b ∷ bytes) least most are long low high =
    let value : ℕ = a * 256 + b in
    let p : a ≡ value / 256 % 256 = omega (arith, are 0, are 1) in
    let q : b ≡ value % 256 = omega (arith, are 0, are 1) in
    (a ∷ b ∷ [], bytes, refl, ((λ i. p i ∷ q i ∷ []), low, high))

pub short_open : (bytes : List ℕ) (least most : ℕ) → AreBytes bytes → length bytes < 2 → least ≤ most → most < 2 ^ 16 → least ≤ padded_u16 bytes 255 → padded_u16 bytes 0 ≤ most → ReadsPart (λ n. n) (IsU16Between least most) bytes (Err Open)
short_open [] least most are short some fits low high = (to_be_bytes w16 least, least, omega arith, (refl, omega arith, some))
short_open (a ∷ []) least most are short some fits low high =
    let value : ℕ = a * 256 + (least - a * 256) in
    let p : a ≡ value / 256 % 256 = omega (arith, are 0) in
    (value % 256 ∷ [], value, omega arith, ((λ i. p i ∷ value % 256 ∷ []), omega arith, omega arith))
short_open (a ∷ b ∷ bytes) least most are short some fits low high = absurd (omega arith)

pub ruleset numbers = (number_wrong, number_whole, number_open, short_wrong, short_whole, short_open)
