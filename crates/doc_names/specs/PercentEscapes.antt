-- What is escaped in a printed address. RFC 3986, sections 2.1 and 3.3.
use Rattle.std.specs.Prelude.{ℕ, Bool, ◌&&◌, ◌||◌, ◌==◌, nat_le, List, [], ◌∷◌, codes}
use Rattle.std.specs.Prelude.{encode_utf8_all, if◌then◌else◌, flat_map}
use Rattle.std.specs.List.{list_any}
use Rattle.std.specs.Char.{is_ascii, is_ascii_alphanumeric}
use Rattle.percent_encoding.specs.Percent.{percent_encode_byte}

-- the octets that a printed part has unescaped: `pchar` of RFC 3986, section 3.3
abbrev pub is_pchar : ℕ → Bool
is_pchar b =
    is_ascii b && (is_ascii_alphanumeric b || list_any (λ c. b == c) (codes "-._~!$&'()*+,;=:@"))

-- an octet unescaped, or as `%` and two upper-case digits
abbrev pub escape_octet : (ℕ → Bool) → ℕ → List ℕ
escape_octet plain b = if plain b then b ∷ [] else percent_encode_byte b

-- octets, each escaped unless it is plain
abbrev pub escape_octets : (ℕ → Bool) → List ℕ → List ℕ
escape_octets plain octets = flat_map (escape_octet plain) octets

-- a text as a part of a printed address
abbrev pub escape_part : List ℕ → List ℕ
escape_part text = escape_octets is_pchar (encode_utf8_all text)

-- the octets that the selector in an element's xcap-diff document has unescaped: the visible ones
-- of ASCII, from `!` (33) to `~` (126)
abbrev pub is_visible : ℕ → Bool
is_visible b = is_ascii b && (nat_le 33 b && nat_le b 126)
