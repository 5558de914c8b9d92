-- Names for the fixed words of the grammar.
use Rattle.std.specs.Prelude.{ℕ, codes, List}

-- `<` and `>`
abbrev pub less : List ℕ
less = codes "<"

abbrev pub greater : List ℕ
greater = codes ">"

-- `/>` and `</`
abbrev pub empty_tag_end : List ℕ
empty_tag_end = codes "/>"

abbrev pub end_tag_start : List ℕ
end_tag_start = codes "</"

-- `=`, `:`, `&`, `;`, `#` and `x`
abbrev pub equals_sign : List ℕ
equals_sign = codes "="

abbrev pub colon : List ℕ
colon = codes ":"

abbrev pub ampersand : List ℕ
ampersand = codes "&"

abbrev pub semicolon : List ℕ
semicolon = codes ";"

abbrev pub hash : List ℕ
hash = codes "#"

abbrev pub letter_x : List ℕ
letter_x = codes "x"

-- `amp`, `lt`, `gt`, `quot` and `apos`
abbrev pub amp : List ℕ
amp = codes "amp"

abbrev pub lt : List ℕ
lt = codes "lt"

abbrev pub gt : List ℕ
gt = codes "gt"

abbrev pub quot : List ℕ
quot = codes "quot"

abbrev pub apos : List ℕ
apos = codes "apos"

-- `]]>`
abbrev pub cdata_end : List ℕ
cdata_end = codes "]]>"
