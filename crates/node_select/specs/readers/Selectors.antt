-- Reading functions, one for each rule of the grammar of selectors. A test of what comes next
-- decides which member of a choice is read, and whether a repetition goes on.
use Rattle.std.specs.Prelude.{ℕ, Bool, not, ◌&&◌, ◌||◌, ◌==◌, codes, List, ◌++◌, Option, None, Some}
use Rattle.xml_names.specs.declared.names.Name.{Name}
use Rattle.std.specs.Char.{is_ascii_digit}
use Rattle.xml_grammar.specs.TextReading.{Reader, first_char_is, starts_with_word, read_word}
use Rattle.xml_grammar.specs.TextReading.{read_sequence}
use Rattle.xml_grammar.specs.TextReading.{read_mapped, read_one_or_more}
use Rattle.xml_grammar.specs.readers.RuleReaders.{read_either, read_many, read_with_length}
use Rattle.xml_grammar.specs.readers.RuleReaders.{read_filtered}
use Rattle.xml_grammar.specs.readers.RuleReaders.{read_optional, read_between_gaps, read_first}
use Rattle.xml_grammar.specs.readers.RuleReaders.{read_second, read_quoted}
use Rattle.xml_tokens.specs.declared.fault_kind.FaultKind.{FaultKind}
use Rattle.xml_tokens.specs.Tokens.{is_quote}
use Rattle.xml_tokens.specs.readers.Tokens.{read_qname, read_reference, read_raw_value}
use Rattle.xml_tokens.specs.readers.Tokens.{reference_follows}
use Rattle.node_select.specs.Grammar.{position_of, is_attribute_name, literal_value}
use Rattle.node_select.specs.readers.SelectorValues.{steps_from_parts}
use Rattle.node_select.specs.readers.Literals.{slash, star, at_sign, open_bracket, close_bracket}
use Rattle.node_select.specs.readers.Literals.{equals_sign, namespaces, text_test}
use Rattle.node_select.specs.readers.RawSelectors.{RawStep, RawEnd, AtAttribute, AtNamespaces}
use Rattle.node_select.specs.readers.RawSelectors.{RawPatchEnd}
use Rattle.node_select.specs.readers.RawSelectors.{PatchAttribute, PatchChars, RawSelector}
use Rattle.node_select.specs.readers.RawSelectors.{RawPatchSelector}
use Rattle.node_select.specs.readers.RawSelectors.{raw_step_of, raw_end_or_element}
use Rattle.node_select.specs.readers.RawSelectors.{raw_patch_end_or_element}
use Rattle.node_select.specs.readers.RawSelectors.{slash_width}

-- ---- steps

abbrev pub star_follows : List ℕ → Bool
star_follows = first_char_is (λ c. c == 42)

abbrev pub read_node_name : Reader FaultKind (Option Name)
read_node_name =
    read_either star_follows (read_mapped (λ _. None) (read_word star))
    (read_mapped Some read_qname)

-- `[`, and no `@` after it
abbrev pub position_follows : List ℕ → Bool
position_follows t =
    first_char_is (λ c. c == 91) t && not (starts_with_word (open_bracket ++ at_sign) t)

abbrev pub read_position : Reader FaultKind ℕ
read_position =
    read_second (read_word open_bracket)
    (read_first (read_mapped position_of (read_one_or_more is_ascii_digit))
    (read_word close_bracket))

abbrev pub read_attribute : Reader FaultKind Name
read_attribute = read_second (read_word at_sign) (read_filtered is_attribute_name read_qname)

abbrev pub read_inside_quotes : ℕ → Reader FaultKind (List ℕ)
read_inside_quotes quote =
    read_mapped literal_value
    (read_between_gaps reference_follows (read_raw_value quote) read_reference)

abbrev pub read_value : Reader FaultKind (List ℕ)
read_value = read_quoted is_quote read_inside_quotes

abbrev pub test_follows : List ℕ → Bool
test_follows = first_char_is (λ c. c == 91)

abbrev pub read_test : Reader FaultKind (Name × List ℕ)
read_test =
    read_second (read_word open_bracket)
    (read_first
    (read_sequence read_attribute (λ _. read_second (read_word equals_sign) read_value))
    (read_word close_bracket))

abbrev pub read_step : Reader FaultKind RawStep
read_step =
    read_mapped raw_step_of
    (read_with_length (read_sequence
    (read_with_length (read_sequence read_node_name
    (λ _. read_optional position_follows read_position)))
    (λ _. read_optional test_follows read_test)))

-- ---- selectors

-- `/`, followed neither by an attribute nor by `namespace::`
abbrev pub slash_follows : List ℕ → Bool
slash_follows = first_char_is (λ c. c == 47)

abbrev pub namespace_axis : List ℕ
namespace_axis = codes "namespace::"

abbrev pub step_follows : List ℕ → Bool
step_follows t =
    slash_follows t
    && not (starts_with_word (slash ++ at_sign) t || starts_with_word (slash ++ namespace_axis) t)

abbrev pub read_next_step : Reader FaultKind RawStep
read_next_step = read_second (read_word slash) read_step

abbrev pub read_steps : (List ℕ → Bool) → Reader FaultKind (List RawStep)
read_steps follows =
    read_mapped steps_from_parts (read_sequence read_step (λ _. read_many follows read_next_step))

abbrev pub attribute_follows : List ℕ → Bool
attribute_follows = first_char_is (λ c. c == 64)

abbrev pub read_end : Reader FaultKind RawEnd
read_end =
    read_either attribute_follows (read_mapped AtAttribute read_attribute)
    (read_mapped (λ _. AtNamespaces) (read_word namespaces))

abbrev pub read_selector : Reader FaultKind RawSelector
read_selector =
    read_sequence (read_steps step_follows) (λ _.
    read_mapped raw_end_or_element
    (read_optional slash_follows (read_second (read_word slash) read_end)))

-- ---- selectors of patches

-- `/`, followed neither by an attribute nor by `text(`
abbrev pub text_call : List ℕ
text_call = codes "text("

abbrev pub patch_step_follows : List ℕ → Bool
patch_step_follows t =
    slash_follows t
    && not (starts_with_word (slash ++ at_sign) t || starts_with_word (slash ++ text_call) t)

abbrev pub read_patch_end : Reader FaultKind RawPatchEnd
read_patch_end =
    read_either attribute_follows (read_mapped PatchAttribute read_attribute)
    (read_mapped PatchChars
    (read_second (read_word text_test) (read_optional test_follows read_position)))

abbrev pub read_patch_selector : Reader FaultKind RawPatchSelector
read_patch_selector =
    read_sequence (read_mapped slash_width (read_optional slash_follows (read_word slash)))
    (λ _.
    read_sequence (read_steps patch_step_follows)
    (λ _.
    read_mapped raw_patch_end_or_element
    (read_optional slash_follows (read_second (read_word slash) read_patch_end))))
