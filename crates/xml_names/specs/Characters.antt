-- The classes of characters, and names. XML 1.0, fifth edition, sections 2.2 and 2.3; Namespaces
-- in XML 1.0, section 3. Each class follows its production: `#x9` is `c == 0x9`, and
-- `[#x20-#xD7FF]` is `within 0x20 0xD7FF c`, both ends included.
use Rattle.std.specs.Prelude.{ℕ, Bool, false, ◌&&◌, ◌||◌, ◌==◌, List, [], ◌∷◌}
use Rattle.std.specs.List.{list_all}
use Rattle.std.specs.Int.{is_in_range as within}

-- [2] Char ::= #x9 | #xA | #xD | [#x20-#xD7FF] | [#xE000-#xFFFD] | [#x10000-#x10FFFF]
abbrev pub is_char : ℕ → Bool
is_char c =
    c == 0x9 || c == 0xA || c == 0xD || within 0x20 0xD7FF c || within 0xE000 0xFFFD c
    || within 0x10000 0x10FFFF c

-- [3] S ::= (#x20 | #x9 | #xD | #xA)+, one character of it
abbrev pub is_space : ℕ → Bool
is_space c = c == 0x20 || c == 0x9 || c == 0xD || c == 0xA

-- [4] NameStartChar ::= [A-Z] | "_" | [a-z] | [#xC0-#xD6] | [#xD8-#xF6] | [#xF8-#x2FF]
--     | [#x370-#x37D] | [#x37F-#x1FFF] | [#x200C-#x200D] | [#x2070-#x218F] | [#x2C00-#x2FEF]
--     | [#x3001-#xD7FF] | [#xF900-#xFDCF] | [#xFDF0-#xFFFD] | [#x10000-#xEFFFF]
-- without the colon, which no NCName has; `A` is 65, `Z` 90, `_` 95, `a` 97 and `z` 122
abbrev pub is_name_start : ℕ → Bool
is_name_start c =
    within 65 90 c || c == 95 || within 97 122 c || within 0xC0 0xD6 c || within 0xD8 0xF6 c
    || within 0xF8 0x2FF c
    || within 0x370 0x37D c || within 0x37F 0x1FFF c || within 0x200C 0x200D c
    || within 0x2070 0x218F c || within 0x2C00 0x2FEF c
    || within 0x3001 0xD7FF c || within 0xF900 0xFDCF c || within 0xFDF0 0xFFFD c
    || within 0x10000 0xEFFFF c

-- the characters that a name may contain but not begin with: `-` (45), `.` (46), from `0` (48) to
-- `9` (57), and others
abbrev pub is_non_start_char : ℕ → Bool
is_non_start_char c =
    c == 45 || c == 46 || within 48 57 c || c == 0xB7 || within 0x300 0x36F c
    || within 0x203F 0x2040 c

-- [4a] NameChar ::= NameStartChar | "-" | "." | [0-9] | #xB7 | [#x0300-#x036F] | [#x203F-#x2040],
--     without the colon
abbrev pub is_name_char : ℕ → Bool
is_name_char c = is_name_start c || is_non_start_char c

-- [4] of Namespaces, NCName: a NameStartChar and any number of NameChars, none of them a colon
abbrev pub is_name : List ℕ → Bool
is_name [] = false
is_name (c ∷ cs) = is_name_start c && list_all is_name_char cs

-- every character is a Char
abbrev pub has_only_chars : List ℕ → Bool
has_only_chars text = list_all is_char text
