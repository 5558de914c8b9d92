-- Which bytes are UTF-8, as a test.
use Rattle.std.proofs.Common.{◌≡◌, ℕ, Bool, true, false, List, refl}
use Rattle.std.specs.Str.{IsUtf8, is_utf8}
use Rattle.std.proofs.lemmas.Str.{IsUtf8-from_is_utf8, is_utf8-from_IsUtf8}

pub is_text : (bytes : List ℕ) → IsUtf8 bytes → is_utf8 bytes ≡ true
is_text bytes is = is_utf8-from_IsUtf8 bytes is

pub is_no_text : (bytes : List ℕ) → ¬ (IsUtf8 bytes) → is_utf8 bytes ≡ false
is_no_text bytes not = by_test (is_utf8 bytes) refl
  where
    by_test : (b : Bool) → is_utf8 bytes ≡ b → b ≡ false
    by_test true is = absurd (not (IsUtf8-from_is_utf8 bytes is))
    by_test false is = refl
