-- Reading functions, one for each rule of the grammar: they read from left to right, and a test
-- of what comes next decides which member of a choice is read, and whether a repetition goes on.
use Rattle.std.specs.Prelude.{ℕ, zero, suc, ◌+◌, Bool, true, false, ◌&&◌, ◌||◌, ◌==◌, not, List}
use Rattle.std.specs.Prelude.{[], ◌∷◌}
use Rattle.xml_names.specs.Characters.{is_space, is_name_start}
use Rattle.xml_tree.specs.Tree.{Content, last, Tree}
use Rattle.xml_names.specs.declared.names.Name.{Name}
use Rattle.xml_names.specs.declared.names.Decl.{Decl}
use Rattle.xml_grammar.specs.TextReading.{Reader, first_char_is, starts_with_word, read_word}
use Rattle.xml_grammar.specs.TextReading.{read_run}
use Rattle.xml_grammar.specs.TextReading.{read_sequence, read_mapped}
use Rattle.xml_grammar.specs.readers.RuleReaders.{space_then, read_never, read_empty, read_either}
use Rattle.xml_grammar.specs.readers.RuleReaders.{read_many, read_with_length, read_atomic}
use Rattle.xml_grammar.specs.readers.RuleReaders.{read_with_prefix_mark}
use Rattle.xml_grammar.specs.readers.RuleReaders.{read_with_value_marks, read_between_gaps}
use Rattle.xml_grammar.specs.readers.RuleReaders.{read_first}
use Rattle.xml_grammar.specs.readers.RuleReaders.{read_second, read_quoted}
use Rattle.xml_tokens.specs.readers.Literals.{less, greater, empty_tag_end, end_tag_start}
use Rattle.xml_markup.specs.readers.Literals.{pi_start, bang, bang_bracket}
use Rattle.xml_markup.specs.readers.Markup.{read_comment, read_cdata_section}
use Rattle.xml_markup.specs.readers.Markup.{read_processing_instruction}
use Rattle.xml_markup.specs.readers.Markup.{read_optional_bom, read_optional_declaration}
use Rattle.xml_markup.specs.readers.Markup.{read_prolog}
use Rattle.xml_markup.specs.readers.Markup.{read_epilog}
use Rattle.xml_tokens.specs.declared.fault_kind.FaultKind.{FaultKind}
use Rattle.xml_tokens.specs.declared.fault_kind.FaultKind.TheVariants.{Depth}
use Rattle.tree_text.specs.declared.raw_attribute.RawAttribute.{RawAttribute}
use Rattle.xml_tokens.specs.Values.{normalized_value}
use Rattle.tree_text.specs.ContentPieces.{Markup, Reference, Section, Comment, Instruction, Inner}
use Rattle.tree_text.specs.ContentPieces.{StartTag, with_pieces}
use Rattle.tree_text.specs.readers.TagValues.{raw_attribute_of, start_tag_of}
use Rattle.tree_text.specs.Names.{element_of, scope_inside_tag}
use Rattle.tree_text.specs.readers.TagNameFaults.{tag_fault}
use Rattle.xml_tokens.specs.Tokens.{is_quote, is_raw_char}
use Rattle.xml_tokens.specs.readers.Tokens.{read_chars}
use Rattle.xml_tokens.specs.readers.Tokens.{read_end_tag, read_equals, read_name}
use Rattle.xml_tokens.specs.readers.Tokens.{read_qname, read_reference, read_required_spaces}
use Rattle.xml_tokens.specs.readers.Tokens.{read_spaces, read_value, reference_follows}

-- ---- tags

abbrev pub read_attribute : Reader FaultKind (Name × List ℕ)
read_attribute =
    read_sequence read_qname (λ _. read_second read_equals (read_quoted is_quote read_value))

abbrev pub read_raw_attribute : Reader FaultKind RawAttribute
read_raw_attribute = read_mapped raw_attribute_of (read_sequence read_required_spaces
    (λ _. read_with_length read_attribute))

-- an attribute follows after white space
abbrev pub raw_attribute_follows : List ℕ → Bool
raw_attribute_follows = space_then is_space is_name_start

abbrev pub read_raw_attributes : Reader FaultKind (List RawAttribute)
read_raw_attributes = read_many raw_attribute_follows read_raw_attribute

abbrev pub read_tag_end : Reader FaultKind Bool
read_tag_end =
    read_either (first_char_is (λ c. c == 47)) (read_mapped (λ _. true) (read_word empty_tag_end))
    (read_mapped (λ _. false) (read_word greater))

-- after the name of a start tag: its attributes, and whether it ends as an empty element's
abbrev pub read_tag_rest : Reader FaultKind (List RawAttribute × Bool)
read_tag_rest = read_sequence (read_first read_raw_attributes read_spaces) (λ _. read_tag_end)

abbrev pub read_tag_parts : Reader FaultKind (Name × (List RawAttribute × Bool))
read_tag_parts = read_second (read_word less) (read_sequence read_qname (λ _. read_tag_rest))

abbrev pub read_tag : Reader FaultKind StartTag
read_tag = read_mapped start_tag_of (read_with_length read_tag_parts)

-- ---- content

abbrev pub read_markup : Reader FaultKind Tree → Reader FaultKind Markup
read_markup inner =
    read_either (first_char_is (λ c. c == 38)) (read_mapped Reference read_reference)
    (read_either (starts_with_word bang_bracket) (read_mapped Section read_cdata_section)
    (read_either (starts_with_word bang) (read_mapped Comment read_comment)
    (read_either (starts_with_word pi_start)
    (read_mapped (λ _. Instruction) read_processing_instruction)
    (read_mapped Inner inner))))

-- a reference or `<` follows, and no end tag
abbrev pub markup_follows : List ℕ → Bool
markup_follows t =
    first_char_is (λ c. c == 38 || c == 60) t && not (starts_with_word end_tag_start t)

-- markup other than an element follows: a reference, `<!` or `<?`
abbrev pub non_element_follows : List ℕ → Bool
non_element_follows t =
    first_char_is (λ c. c == 38) t || starts_with_word bang t || starts_with_word pi_start t

abbrev pub read_content : Reader FaultKind Tree → Reader FaultKind Content
read_content inner =
    read_mapped (λ x. with_pieces (last x.0) x.1)
    (read_between_gaps markup_follows read_chars (read_markup inner))

-- ---- elements

abbrev pub read_element_rest : Reader FaultKind Tree → Name → Bool → Reader FaultKind Content
read_element_rest inner n true = read_empty (last [])
read_element_rest inner n false = read_first (read_content inner) (read_end_tag n)

-- a start tag's `<`, and the first character of its name
abbrev pub starts_tag : List ℕ → Bool
starts_tag [] = false
starts_tag (c ∷ cs) = c == 60 && first_char_is is_name_start cs

-- an element in this scope and at this depth, with this many levels left
abbrev pub read_element : ℕ → List (List Decl) → ℕ → Reader FaultKind Tree
read_element zero scope depth =
    read_with_prefix_mark (Depth depth) starts_tag
    (read_second (read_word less) (read_second read_name read_never))
read_element (suc n) scope depth =
    read_mapped element_of
    (read_sequence (read_with_value_marks (tag_fault scope) read_tag) (λ t.
    read_element_rest (read_element n (scope_inside_tag scope t) (depth + 1)) t.name t.is_empty))

-- a document with at most this many levels
abbrev pub read_text : ℕ → List (List Decl) → Reader FaultKind Tree
read_text levels scope =
    read_second read_optional_bom
    (read_second read_optional_declaration
    (read_second read_prolog (read_first (read_element levels scope 1) read_epilog)))

-- ---- bodies that spell a value

abbrev pub read_raw_chars : Reader FaultKind (List ℕ)
read_raw_chars = read_run is_raw_char

abbrev pub read_whole_reference : Reader FaultKind ℕ
read_whole_reference = read_atomic read_reference

abbrev pub read_unquoted_value : Reader FaultKind (List ℕ)
read_unquoted_value =
    read_mapped normalized_value
    (read_between_gaps reference_follows read_raw_chars read_whole_reference)
