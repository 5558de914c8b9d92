-- Texts of visible ASCII characters: their UTF-8, and their form in a target and in a field.
use Rattle.std.proofs.Common.{◌≡◌, ℕ, ◌<◌, Bool, true, false, ◌&&◌, nat_le, List, [], ◌∷◌, ◌++◌, reverse, refl, ap, ◌∙◌, arith}
use Rattle.std.specs.Prelude.{IsTrue, IsUtf8, encode_utf8_all}
use Rattle.std.specs.List.{list_all, AllByRecursion}
use Rattle.std.specs.Str.{IsAscii}
use Rattle.std.proofs.lemmas.Bool.{and_parts, and_from}
use Rattle.std.proofs.lemmas.Bool.Decides.{nat_tests}
use Rattle.std.proofs.lemmas.List.{reverse-append}
use Rattle.std.proofs.lemmas.List.Elements.{All-from_recursion}
use Rattle.std.proofs.lemmas.Str.{encodes-IsAscii, IsUtf8-from_ascii}
use Rattle.std.proofs.lemmas.Str.Ascii.{IsAscii-nil, IsAscii-cons}
use Rattle.httparse.specs.Grammar.{is_uri_byte, is_value_byte, is_ows, AllPass, skip_ows, trim_ows}
use Rattle.httparse.proofs.TrimLemmas.{trim_ows_space}

-- from `!` to `~`
abbrev pub is_visible : ℕ → Bool
is_visible b = nat_le 33 b && nat_le b 126

pub each_true : (p q : ℕ → Bool) → ((b : ℕ) → p b ≡ true → q b ≡ true) → (bytes : List ℕ) → list_all p bytes ≡ true → list_all q bytes ≡ true
each_true p q on [] all = refl
each_true p q on (b ∷ bytes) all =
    let parts = and_parts (p b) (list_all p bytes) all in
    and_from (q b) (list_all q bytes) (on b parts.0) (each_true p q on bytes parts.1)

by_recursion : (p : ℕ → Bool) (bytes : List ℕ) → list_all p bytes ≡ true → AllByRecursion (λ b. IsTrue (p b)) bytes
by_recursion p [] all = tt
by_recursion p (b ∷ bytes) all =
    let parts = and_parts (p b) (list_all p bytes) all in
    (parts.0, by_recursion p bytes parts.1)

-- each byte passes, in the terms of the grammar of heads
pub passes : (p : ℕ → Bool) (bytes : List ℕ) → list_all p bytes ≡ true → AllPass p bytes
passes p bytes all = All-from_recursion (λ b. IsTrue (p b)) bytes (by_recursion p bytes all)

ascii : (bytes : List ℕ) → list_all is_visible bytes ≡ true → IsAscii bytes
ascii [] all = IsAscii-nil
ascii (b ∷ bytes) all =
    let parts = and_parts (is_visible b) (list_all is_visible bytes) all in
    IsAscii-cons b bytes (small b parts.0) (ascii bytes parts.1)
  where
    small : (b : ℕ) → is_visible b ≡ true → b < 128
    small b is = grind (arith, nat_tests)

pub visible_utf8 : (bytes : List ℕ) → list_all is_visible bytes ≡ true → encode_utf8_all bytes ≡ bytes
visible_utf8 bytes all = encodes-IsAscii bytes (ascii bytes all)

pub visible_is_utf8 : (bytes : List ℕ) → list_all is_visible bytes ≡ true → IsUtf8 bytes
visible_is_utf8 bytes all = IsUtf8-from_ascii bytes (ascii bytes all)

uri_byte : (b : ℕ) → is_visible b ≡ true → is_uri_byte b ≡ true
uri_byte b is = grind (arith, nat_tests)

value_byte : (b : ℕ) → is_visible b ≡ true → is_value_byte b ≡ true
value_byte b is = grind (arith, nat_tests)

no_ows : (b : ℕ) → is_visible b ≡ true → is_ows b ≡ false
no_ows b is = grind (arith, nat_tests)

pub visible_in_target : (bytes : List ℕ) → list_all is_visible bytes ≡ true → AllPass is_uri_byte bytes
visible_in_target bytes all = passes is_uri_byte bytes (each_true is_visible is_uri_byte uri_byte bytes all)

pub visible_in_value : (bytes : List ℕ) → list_all is_visible bytes ≡ true → AllPass is_value_byte (32 ∷ bytes)
visible_in_value bytes all = passes is_value_byte (32 ∷ bytes) (each_true is_visible is_value_byte value_byte bytes all)

pub visible-append : (xs ys : List ℕ) → list_all is_visible xs ≡ true → list_all is_visible ys ≡ true → list_all is_visible (xs ++ ys) ≡ true
visible-append [] ys all more = more
visible-append (x ∷ xs) ys all more =
    let parts = and_parts (is_visible x) (list_all is_visible xs) all in
    and_from (is_visible x) (list_all is_visible (xs ++ ys)) parts.0 (visible-append xs ys parts.1 more)

visible-reverse : (xs : List ℕ) → list_all is_visible xs ≡ true → list_all is_visible (reverse xs) ≡ true
visible-reverse [] all = refl
visible-reverse (x ∷ xs) all =
    let parts = and_parts (is_visible x) (list_all is_visible xs) all in
    ap (list_all is_visible) (reverse-append (x ∷ []) xs) ∙ visible-append (reverse xs) (x ∷ []) (visible-reverse xs parts.1) (and_from (is_visible x) true parts.0 refl)

skips_none : (xs : List ℕ) → list_all is_visible xs ≡ true → skip_ows xs ≡ xs
skips_none [] all = refl
skips_none (x ∷ xs) all = rw (no_ows x (and_parts (is_visible x) (list_all is_visible xs) all).0) refl

-- the value is read back after a space
pub visible_trims : (xs : List ℕ) → list_all is_visible xs ≡ true → trim_ows (32 ∷ xs) ≡ xs
visible_trims xs all = trim_ows_space xs (skips_none xs all) (skips_none (reverse xs) (visible-reverse xs all))
