-- ASCII words: their bytes are their characters.
use Rattle.std.proofs.Common.{◌≡◌, ℕ, ◌<◌, List, [], ◌∷◌, IsTrue, chars, arith}
use Rattle.std.proofs.lemmas.Str.{chars-IsAscii}
use Rattle.std.proofs.lemmas.Str.Ascii.{IsAscii-nil, IsAscii-cons}
use Rattle.std.proofs.lemmas.Bool.Decides.{nat_tests}
use Rattle.std.specs.Str.{IsAscii}
use Rattle.usage_docs.specs.AsciiTexts.{is_ascii}

first_below : (b : ℕ) (bs : List ℕ) → IsTrue (is_ascii (b ∷ bs)) → b < 128
first_below b bs h = grind (arith, nat_tests)

others : (b : ℕ) (bs : List ℕ) → IsTrue (is_ascii (b ∷ bs)) → IsTrue (is_ascii bs)
others b bs h = grind (arith, nat_tests)

IsAscii-test : (bs : List ℕ) → IsTrue (is_ascii bs) → IsAscii bs
IsAscii-test [] h = IsAscii-nil
IsAscii-test (b ∷ bs) h = IsAscii-cons b bs (first_below b bs h) (IsAscii-test bs (others b bs h))

pub chars_ascii : (bs : List ℕ) → IsTrue (is_ascii bs) → chars bs ≡ bs
chars_ascii bs h = chars-IsAscii bs (IsAscii-test bs h)
