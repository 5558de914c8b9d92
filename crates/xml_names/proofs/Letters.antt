-- Texts as bytes and as characters.
use Rattle.std.proofs.Common.{◌≡◌, ℕ, ◌<◌, List, [], ◌∷◌, length, chars, bytes_eq, encode_utf8_all, IsUtf8, sym, ap, ◌∙◌, arith}
use Rattle.std.proofs.lemmas.Str.{chars-nil, encodes-chars}
use Rattle.std.specs.Cmp.{both_ways}
use Rattle.std.specs.Cmp.Lexicographic.{bytes_decides}

-- texts have the same bytes exactly when they have the same characters
pub bytes_eq-chars : (a b : List ℕ) → IsUtf8 a → IsUtf8 b → bytes_eq a b ≡ bytes_eq (chars a) (chars b)
bytes_eq-chars a b u v =
    both_ways _ _
    (λ h. (bytes_decides (chars a) (chars b)).1 (ap chars ((bytes_decides a b).0 h)))
    (λ h. (bytes_decides a b).1 (sym (encodes-chars a u) ∙ ap encode_utf8_all ((bytes_decides (chars a) (chars b)).0 h) ∙ encodes-chars b v))

-- no bytes are no characters, and vice versa
pub chars_empty : (bs : List ℕ) → length bs ≡ 0 → chars bs ≡ []
chars_empty [] h = chars-nil
chars_empty (b ∷ bs) h = absurd (omega arith)

pub chars_none : (bs : List ℕ) → IsUtf8 bs → chars bs ≡ [] → length bs ≡ 0
chars_none bs u e = ap length (sym (encodes-chars bs u) ∙ ap encode_utf8_all e)

some_encoded : (cs bs : List ℕ) → encode_utf8_all cs ≡ bs → 0 < length bs → 0 < length cs
some_encoded [] bs e h = absurd (omega (arith, ap length e))
some_encoded (c ∷ cs) bs e h = omega arith

pub chars_some : (bs : List ℕ) → IsUtf8 bs → 0 < length bs → 0 < length (chars bs)
chars_some bs u h = some_encoded (chars bs) bs (encodes-chars bs u) h
