-- Escapes of octets in addresses. RFC 3986, section 2.1.
use Rattle.std.specs.Prelude.{◌≡◌, ℕ, Bool, true, not, ◌&&◌, ◌==◌, List, [], ◌∷◌, Option, None}
use Rattle.std.specs.Prelude.{Some, if◌then◌else◌, chars}
use Rattle.std.specs.Char.{is_ascii_hexdigit}
use Rattle.std.specs.Str.{is_utf8}
use Rattle.percent_encoding.specs.Percent.{percent_decode}

-- each `%` (37) is followed by two hexadecimal digits
abbrev pub has_complete_escapes : List ℕ → Bool
has_complete_escapes [] = true
has_complete_escapes (b ∷ []) = not (b == 37)
has_complete_escapes (b ∷ c ∷ []) = not (b == 37) && not (c == 37)
has_complete_escapes (b ∷ high ∷ low ∷ rest) =
    if b == 37 then is_ascii_hexdigit high && (is_ascii_hexdigit low && has_complete_escapes rest)
    else has_complete_escapes (high ∷ low ∷ rest)

-- a part of an address decodes to this text: its escapes are complete, and the decoded octets are
-- UTF-8
pub record DecodesTo (part text : List ℕ) : Type 0 where
  pub stands : (has_complete_escapes part && is_utf8 (percent_decode part)) ≡ true
  pub decoded : text ≡ chars (percent_decode part)

-- a part that may be absent decodes to this text, or to none
abbrev pub DecodesToOptional : Option (List ℕ) → Option (List ℕ) → Type 0
DecodesToOptional None text = text ≡ None
DecodesToOptional (Some part) None = ⊥
DecodesToOptional (Some part) (Some text) = DecodesTo part text
