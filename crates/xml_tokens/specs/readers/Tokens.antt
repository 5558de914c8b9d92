-- Reading functions, one for each rule of tokens: they read from left to right, and a test of what
-- comes next decides which member of a choice is read, and whether a repetition goes on.
use Rattle.std.specs.Prelude.{ℕ, Bool, ◌==◌, List, codes}
use Rattle.xml_names.specs.Characters.{is_char, is_space, is_name_start, is_name_char}
use Rattle.xml_names.specs.declared.names.Name.{Name}
use Rattle.xml_grammar.specs.Digits.{decimal_digits, hexadecimal_digits}
use Rattle.xml_grammar.specs.TextReading.{Reader, first_char_is, starts_with_word, read_word}
use Rattle.xml_grammar.specs.TextReading.{read_run}
use Rattle.xml_grammar.specs.TextReading.{read_sequence}
use Rattle.xml_grammar.specs.TextReading.{read_mapped, read_one_or_more}
use Rattle.xml_grammar.specs.readers.RuleReaders.{read_run_without, read_number, read_either}
use Rattle.xml_grammar.specs.readers.RuleReaders.{read_optional, read_between_gaps, read_name_rule}
use Rattle.xml_grammar.specs.readers.RuleReaders.{read_first, read_second}
use Rattle.xml_tokens.specs.readers.Literals.{greater, end_tag_start, equals_sign, colon, ampersand}
use Rattle.xml_tokens.specs.readers.Literals.{semicolon, hash, letter_x, amp, lt, gt, quot, apos}
use Rattle.xml_tokens.specs.readers.Literals.{cdata_end}
use Rattle.xml_tokens.specs.declared.fault_kind.FaultKind.{FaultKind}
use Rattle.xml_tokens.specs.Values.{normalize_line_ends, qname_of, qname_text, normalized_value}
use Rattle.xml_tokens.specs.Tokens.{max_char, is_raw_char, is_raw_value_char}

-- ---- names and white space

abbrev pub read_name : Reader FaultKind (List ℕ)
read_name = read_name_rule is_name_start is_name_char

-- a colon follows
abbrev pub colon_follows : List ℕ → Bool
colon_follows = first_char_is (λ c. c == 58)

abbrev pub read_qname : Reader FaultKind Name
read_qname =
    read_mapped qname_of
    (read_sequence read_name (λ _.
    read_optional colon_follows (read_second (read_word colon) read_name)))

abbrev pub read_spaces : Reader FaultKind (List ℕ)
read_spaces = read_run is_space

abbrev pub read_required_spaces : Reader FaultKind (List ℕ)
read_required_spaces = read_one_or_more is_space

abbrev pub read_equals : Reader FaultKind (List ℕ)
read_equals = read_second read_spaces (read_second (read_word equals_sign) read_spaces)

-- ---- references and values

abbrev pub read_predefined_entity : ℕ → List ℕ → Reader FaultKind ℕ
read_predefined_entity c w = read_mapped (λ _. c) (read_word w)

-- the first letters distinguish the entities: `l`, `g`, `q`, `ap`, or else `a`
abbrev pub read_entity : Reader FaultKind ℕ
read_entity =
    read_either (first_char_is (λ c. c == 108)) (read_predefined_entity 60 lt)
    (read_either (first_char_is (λ c. c == 103)) (read_predefined_entity 62 gt)
    (read_either (first_char_is (λ c. c == 113)) (read_predefined_entity 34 quot)
    (read_either (starts_with_word (codes "ap")) (read_predefined_entity 39 apos)
    (read_predefined_entity 38 amp))))

abbrev pub read_char_ref : Reader FaultKind ℕ
read_char_ref =
    read_second (read_word hash)
    (read_either (first_char_is (λ c. c == 120))
    (read_second (read_word letter_x) (read_number hexadecimal_digits max_char is_char))
    (read_number decimal_digits max_char is_char))

abbrev pub read_reference_body : Reader FaultKind ℕ
read_reference_body = read_either (first_char_is (λ c. c == 35)) read_char_ref read_entity

abbrev pub read_reference : Reader FaultKind ℕ
read_reference =
    read_second (read_word ampersand) (read_first read_reference_body (read_word semicolon))

-- raw characters of a value between these quotes
abbrev pub read_raw_value : ℕ → Reader FaultKind (List ℕ)
read_raw_value quote = read_run (is_raw_value_char quote)

-- a reference follows
abbrev pub reference_follows : List ℕ → Bool
reference_follows = first_char_is (λ c. c == 38)

abbrev pub read_value : ℕ → Reader FaultKind (List ℕ)
read_value quote =
    read_mapped normalized_value
    (read_between_gaps reference_follows (read_raw_value quote) read_reference)

abbrev pub read_end_tag : Name → Reader FaultKind (Unit {0})
read_end_tag n =
    read_second (read_word end_tag_start)
    (read_second (read_word (qname_text n)) (read_second read_spaces (read_word greater)))

-- raw characters of content
abbrev pub read_raw_run : Reader FaultKind (List ℕ)
read_raw_run = read_run_without is_raw_char cdata_end

abbrev pub read_chars : Reader FaultKind (List ℕ)
read_chars = read_mapped normalize_line_ends read_raw_run
