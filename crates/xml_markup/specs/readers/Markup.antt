-- Reading functions, one for each rule of markup: they read from left to right, and a test of what
-- comes next decides which member of a choice is read, and whether a repetition goes on.
use Rattle.std.specs.Prelude.{ℕ, Bool, ◌&&◌, ◌||◌, ◌==◌, List, ◌++◌, drop, Option, None, Some}
use Rattle.std.specs.Prelude.{if◌then◌else◌}
use Rattle.std.specs.Char.{is_ascii_digit, is_ascii_alphabetic}
use Rattle.xml_names.specs.Characters.{is_char, is_space}
use Rattle.xml_grammar.specs.TextReading.{Reader, first_char_is, starts_with_word, read_one_char}
use Rattle.xml_grammar.specs.TextReading.{read_word}
use Rattle.xml_grammar.specs.TextReading.{read_mapped, read_one_or_more}
use Rattle.xml_grammar.specs.readers.RuleReaders.{space_then, read_up_to, read_either}
use Rattle.xml_grammar.specs.readers.RuleReaders.{read_filtered}
use Rattle.xml_grammar.specs.readers.RuleReaders.{read_with_value_marks, read_optional}
use Rattle.xml_grammar.specs.readers.RuleReaders.{read_refused_word, read_between_gaps}
use Rattle.xml_grammar.specs.readers.RuleReaders.{read_name_rule, read_first, read_second}
use Rattle.xml_grammar.specs.readers.RuleReaders.{read_quoted}
use Rattle.xml_tokens.specs.declared.fault_kind.FaultKind.{FaultKind}
use Rattle.xml_tokens.specs.declared.fault_kind.FaultKind.TheVariants.{Doctyped, Encoded}
use Rattle.xml_tokens.specs.Values.{normalize_line_ends}
use Rattle.xml_tokens.specs.Tokens.{is_encoding_char, is_quote}
use Rattle.xml_tokens.specs.readers.Literals.{greater, cdata_end}
use Rattle.xml_tokens.specs.readers.Tokens.{read_equals, read_name, read_required_spaces}
use Rattle.xml_tokens.specs.readers.Tokens.{read_spaces}
use Rattle.xml_markup.specs.Grammar.{is_pi_target, is_supported_encoding}
use Rattle.xml_markup.specs.readers.Literals.{comment_start, dashes, cdata_start, pi_start}
use Rattle.xml_markup.specs.readers.Literals.{pi_end, declaration_start, version, version_start}
use Rattle.xml_markup.specs.readers.Literals.{encoding, standalone, yes, no, bang, doctype}
use Rattle.xml_markup.specs.readers.Literals.{byte_order_mark}

abbrev pub read_without_value : {A : Type 0} → Reader FaultKind A → Reader FaultKind (Unit {0})
read_without_value p = read_mapped (λ _. tt) p

-- ---- comments, CDATA sections and processing instructions

abbrev pub read_comment_text : Reader FaultKind (List ℕ)
read_comment_text =
    read_second (read_word comment_start)
    (read_first (read_up_to is_char dashes) (read_word greater))

abbrev pub read_comment : Reader FaultKind (List ℕ)
read_comment = read_mapped normalize_line_ends read_comment_text

abbrev pub read_cdata_section : Reader FaultKind (List ℕ)
read_cdata_section =
    read_mapped normalize_line_ends
    (read_second (read_word cdata_start) (read_up_to is_char cdata_end))

-- white space follows
abbrev pub space_follows : List ℕ → Bool
space_follows = first_char_is is_space

abbrev pub read_pi_rest : Reader FaultKind (Unit {0})
read_pi_rest =
    read_either space_follows
    (read_without_value (read_second (read_one_char is_space) (read_up_to is_char pi_end)))
    (read_word pi_end)

abbrev pub read_processing_instruction : Reader FaultKind (Unit {0})
read_processing_instruction =
    read_second (read_word pi_start)
    (read_second (read_filtered is_pi_target read_name) read_pi_rest)

-- ---- the XML declaration and the byte order mark

abbrev pub read_version_number : Reader FaultKind (Unit {0})
read_version_number =
    read_without_value (read_second (read_word version_start) (read_one_or_more is_ascii_digit))

abbrev pub read_encoding_name : Reader FaultKind (List ℕ)
read_encoding_name = read_name_rule is_ascii_alphabetic is_encoding_char

abbrev pub read_yes_or_no : Reader FaultKind (Unit {0})
read_yes_or_no = read_either (first_char_is (λ c. c == 121)) (read_word yes) (read_word no)

abbrev pub read_pseudo_attribute : {A : Type 0} → List ℕ → Reader FaultKind A → Reader FaultKind A
read_pseudo_attribute w r =
    read_second read_required_spaces
    (read_second (read_word w) (read_second read_equals (read_quoted is_quote (λ _. r))))

-- white space and this letter follow
abbrev pub letter_follows : ℕ → List ℕ → Bool
letter_follows letter = space_then is_space (λ c. c == letter)

abbrev pub read_version : Reader FaultKind (Unit {0})
read_version = read_pseudo_attribute version read_version_number

abbrev pub read_encoding : Reader FaultKind (List ℕ)
read_encoding = read_pseudo_attribute encoding read_encoding_name

abbrev pub read_standalone : Reader FaultKind (Unit {0})
read_standalone = read_pseudo_attribute standalone read_yes_or_no

abbrev pub read_optional_encoding : Reader FaultKind (Option (List ℕ))
read_optional_encoding = read_optional (letter_follows 101) read_encoding

abbrev pub read_optional_standalone : Reader FaultKind (Option (Unit {0}))
read_optional_standalone = read_optional (letter_follows 115) read_standalone

abbrev pub read_xml_declaration : Reader FaultKind (Option (List ℕ))
read_xml_declaration =
    read_second (read_word declaration_start)
    (read_second read_version
    (read_first read_optional_encoding
    (read_second read_optional_standalone (read_second read_spaces (read_word pi_end)))))

-- the fault of a foreign encoding, at the `?>`
abbrev pub encoding_fault : Option (List ℕ) → Option (FaultKind × ℕ)
encoding_fault None = None
encoding_fault (Some e) = if is_supported_encoding e then None else Some (Encoded, 2)

-- `<?xml` and white space follow
abbrev pub declaration_follows : List ℕ → Bool
declaration_follows t = starts_with_word declaration_start t && first_char_is is_space (drop 5 t)

abbrev pub read_declaration : Reader FaultKind (Option (List ℕ))
read_declaration = read_with_value_marks encoding_fault read_xml_declaration

abbrev pub read_optional_declaration : Reader FaultKind (Unit {0})
read_optional_declaration = read_without_value (read_optional declaration_follows read_declaration)

-- a byte order mark follows
abbrev pub bom_follows : List ℕ → Bool
bom_follows = first_char_is (λ c. c == 0xFEFF)

abbrev pub read_optional_bom : Reader FaultKind (Unit {0})
read_optional_bom = read_without_value (read_optional bom_follows (read_word byte_order_mark))

-- ---- around the root element

abbrev pub read_misc : Reader FaultKind (Unit {0})
read_misc =
    read_either (starts_with_word bang) (read_without_value read_comment)
    read_processing_instruction

-- `<!` or `<?`
abbrev pub misc_follows : List ℕ → Bool
misc_follows t = starts_with_word bang t || starts_with_word pi_start t

-- `<`: after the root element only a comment or an instruction can begin with it
abbrev pub less_follows : List ℕ → Bool
less_follows = first_char_is (λ c. c == 60)

abbrev pub read_misc_list : (List ℕ → Bool) → Reader FaultKind (Unit {0})
    → Reader FaultKind (Unit {0})
read_misc_list follows one_more =
    read_without_value (read_between_gaps follows (read_without_value read_spaces) one_more)

abbrev pub read_prolog_misc : Reader FaultKind (Unit {0})
read_prolog_misc =
    read_either (starts_with_word (bang ++ doctype))
    (read_refused_word Doctyped bang doctype) read_misc

abbrev pub read_prolog : Reader FaultKind (Unit {0})
read_prolog = read_misc_list misc_follows read_prolog_misc

abbrev pub read_epilog : Reader FaultKind (Unit {0})
read_epilog = read_misc_list less_follows read_misc

-- parts without a value, joined
abbrev pub unit_with : Unit {0} → List (Unit {0} × Unit {0}) → Unit {0}
unit_with so_far more = tt
