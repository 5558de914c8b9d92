-- The tokens that texts of documents, selectors and addresses share, rule by rule: XML 1.0, fifth
-- edition, and Namespaces in XML 1.0. The numbers in brackets are the productions of XML, and with
-- an N the productions of Namespaces in XML. A rule says which texts it spells, as which values,
-- and its events where a text breaks off in it.
use Rattle.std.specs.Prelude.{ℕ, Bool, ◌==◌, not, ◌&&◌, ◌||◌, List, codes}
use Rattle.std.specs.Char.{is_ascii_digit, is_ascii_alphabetic}
use Rattle.xml_names.specs.Characters.{is_char, is_space, is_name_start, is_name_char}
use Rattle.xml_names.specs.declared.names.Name.{Name}
use Rattle.xml_grammar.specs.Digits.{decimal_digits, hexadecimal_digits}
use Rattle.xml_grammar.specs.Rules.{Rule, word, char_run, char_run_without, number, sequence}
use Rattle.xml_grammar.specs.Rules.{either}
use Rattle.xml_grammar.specs.Rules.{map_rule}
use Rattle.xml_grammar.specs.Rules.{optional, between_gaps, one_or_more, keep_first, keep_second}
use Rattle.xml_grammar.specs.Rules.{name_rule}
use Rattle.xml_tokens.specs.declared.fault_kind.FaultKind.{FaultKind}
use Rattle.xml_tokens.specs.Values.{normalize_line_ends, qname_of, normalized_value}

-- ---- names and white space

-- [N4] NCName: a name start and name characters, without colons
abbrev pub name : Rule FaultKind (List ℕ)
name = name_rule is_name_start is_name_char

-- [N7] QName: an NCName, or two with `:` between
abbrev pub qname : Rule FaultKind Name
qname = map_rule qname_of (sequence name (λ _. optional (keep_second (word (codes ":")) name)))

-- [3] S, optional and required
abbrev pub spaces : Rule FaultKind (List ℕ)
spaces = char_run is_space

abbrev pub required_spaces : Rule FaultKind (List ℕ)
required_spaces = one_or_more is_space

-- [25] Eq: S? `=` S?
abbrev pub equals : Rule FaultKind (List ℕ)
equals = keep_second spaces (keep_second (word (codes "=")) spaces)

-- ---- references and values

-- an entity, and the character that it stands for
abbrev pub predefined_entity : ℕ → List ℕ → Rule FaultKind ℕ
predefined_entity c w = map_rule (λ _. c) (word w)

-- [68] one of the five entities that there are, for `<` (60), `>` (62), `"` (34), `'` (39) and
-- `&` (38)
abbrev pub entity : Rule FaultKind ℕ
entity =
    either (predefined_entity 60 (codes "lt"))
    (either (predefined_entity 62 (codes "gt"))
    (either (predefined_entity 34 (codes "quot"))
    (either (predefined_entity 39 (codes "apos")) (predefined_entity 38 (codes "amp")))))

-- the last Char
abbrev pub max_char : ℕ
max_char = 0x10FFFF

-- [66] `#` and digits, or `#x` and hexadecimal digits: the number so far is at most the last
-- Char, the whole number is a Char
abbrev pub char_ref : Rule FaultKind ℕ
char_ref =
    keep_second (word (codes "#"))
    (either (keep_second (word (codes "x")) (number hexadecimal_digits max_char is_char))
    (number decimal_digits max_char is_char))

-- [67] Reference: `&`, a number or an entity, `;`
abbrev pub reference : Rule FaultKind ℕ
reference =
    keep_second (word (codes "&")) (keep_first (either char_ref entity) (word (codes ";")))

-- either quote: `"` (34) or `'` (39)
abbrev pub is_quote : ℕ → Bool
is_quote c = c == 34 || c == 39

-- a character that is raw in text: any Char but `<` (60) and `&` (38); in a value between quotes
-- also not its own quote
abbrev pub is_raw_char : ℕ → Bool
is_raw_char c = is_char c && not (c == 60) && not (c == 38)

abbrev pub is_raw_value_char : ℕ → ℕ → Bool
is_raw_value_char quote c = is_raw_char c && not (c == quote)

-- another character than this one
abbrev pub is_different_char : ℕ → ℕ → Bool
is_different_char one c = not (c == one)

-- [10] AttValue, between its quotes: raw characters and references
abbrev pub value : ℕ → Rule FaultKind (List ℕ)
value quote =
    map_rule normalized_value (between_gaps (char_run (is_raw_value_char quote)) reference)

-- [14] CharData: raw characters without `]]>`
abbrev pub char_data : Rule FaultKind (List ℕ)
char_data = map_rule normalize_line_ends (char_run_without is_raw_char (codes "]]>"))

-- ---- names of encodings

-- a letter, a digit, `.` (46), `_` (95) or `-` (45)
abbrev pub is_encoding_char : ℕ → Bool
is_encoding_char c = is_ascii_alphabetic c || is_ascii_digit c || c == 46 || c == 95 || c == 45
