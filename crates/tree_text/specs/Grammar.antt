-- The texts that documents and fragments are read from, rule by rule: XML 1.0, fifth edition, and
-- Namespaces in XML 1.0, without document types; names, references, character data and values are
-- in `xml_tokens/Tokens`, comments, CDATA sections, instructions, the XML declaration and what
-- surrounds the root element in `xml_markup/Grammar`. The numbers in brackets are the productions
-- of XML. A rule says which texts it spells, as which values, and its events where a text breaks
-- off in it.
use Rattle.std.specs.Prelude.{◌≡◌, ℕ, zero, suc, ◌+◌, Bool, true, false, List, [], ◌∷◌, ◌++◌}
use Rattle.std.specs.Prelude.{length, codes}
use Rattle.xml_names.specs.Characters.{is_name_start}
use Rattle.xml_tree.specs.Tree.{Content, last, Tree}
use Rattle.xml_names.specs.declared.names.Name.{Name}
use Rattle.xml_names.specs.declared.names.Decl.{Decl}
use Rattle.xml_grammar.specs.Rules.{Rule, no_text, empty_text, word, char_run, sequence, either}
use Rattle.xml_grammar.specs.Rules.{many, map_rule}
use Rattle.xml_grammar.specs.Rules.{with_length, atomic, with_prefix_mark, with_value_marks}
use Rattle.xml_grammar.specs.Rules.{optional, between_gaps}
use Rattle.xml_grammar.specs.Rules.{keep_first, keep_second, quoted}
use Rattle.xml_tokens.specs.declared.fault_kind.FaultKind.{FaultKind}
use Rattle.xml_tokens.specs.declared.fault_kind.FaultKind.TheVariants.{Depth}
use Rattle.xml_markup.specs.Grammar.{without_value, comment, cdata_section, processing_instruction}
use Rattle.xml_markup.specs.Grammar.{xml_declaration}
use Rattle.xml_markup.specs.Grammar.{MarksUnsupportedEncoding, prolog, epilog}
use Rattle.tree_text.specs.declared.raw_attribute.RawAttribute.{RawAttribute}
use Rattle.xml_tokens.specs.Values.{qname_text, normalized_value}
use Rattle.tree_text.specs.ContentPieces.{Markup, Reference, Section, Comment, Instruction, Inner}
use Rattle.tree_text.specs.ContentPieces.{StartTag, with_pieces}
use Rattle.tree_text.specs.Names.{IsTagFault, element_of, scope_inside_tag}
use Rattle.xml_tokens.specs.Tokens.{char_data, equals, is_quote, is_raw_char, qname, reference}
use Rattle.xml_tokens.specs.Tokens.{required_spaces, spaces, value}

-- ---- tags

-- [41] Attribute: a name, Eq and a value in quotes
abbrev pub attribute : Rule FaultKind (Name × List ℕ)
attribute = sequence qname (λ _. keep_second equals (quoted is_quote value))

-- an attribute after white space: its name, its value, how many characters of white space come
-- before it, and how many it has
abbrev pub raw_attribute : Rule FaultKind RawAttribute
raw_attribute =
    map_rule (λ x. record { name = x.1.0.0; value = x.1.0.1; gap = length x.0; size = x.1.1 })
    (sequence required_spaces (λ _. with_length attribute))

-- `/>` ends an empty element, `>` a start tag
abbrev pub tag_end : Rule FaultKind Bool
tag_end = either (map_rule (λ _. true) (word (codes "/>")))
    (map_rule (λ _. false) (word (codes ">")))

-- [40] STag and [44] EmptyElemTag: `<`, a name, attributes each after S, S?, and `>` or `/>`
abbrev pub start_tag : Rule FaultKind StartTag
start_tag =
    map_rule (λ x. record { name = x.0.0; raw_attribute = x.0.1.0; is_empty = x.0.1.1; size = x.1 })
    (with_length (keep_second (word (codes "<"))
    (sequence qname (λ _. sequence (keep_first (many raw_attribute) spaces) (λ _. tag_end)))))

-- [42] ETag: `</`, the name of the start tag, S?, `>`
abbrev pub end_tag : Name → Rule FaultKind (Unit {0})
end_tag n =
    keep_second (word (codes "</"))
    (keep_second (word (qname_text n)) (keep_second spaces (word (codes ">"))))

-- ---- content

-- what is between runs of characters: a reference, a CDATA section, a comment, an instruction or
-- an element
abbrev pub markup : Rule FaultKind Tree → Rule FaultKind Markup
markup inner =
    either (map_rule Reference reference)
    (either (map_rule Section cdata_section)
    (either (map_rule Comment comment)
    (either (map_rule (λ _. Instruction) processing_instruction) (map_rule Inner inner))))

-- [43] content: no two adjacent pieces are runs of characters
abbrev pub content : Rule FaultKind Tree → Rule FaultKind Content
content inner = map_rule (λ x. with_pieces (last x.0) x.1) (between_gaps char_data (markup inner))

-- ---- elements

-- what follows a start tag: content and the end tag; after the tag of an empty element nothing
abbrev pub element_rest : Rule FaultKind Tree → Name → Bool → Rule FaultKind Content
element_rest inner n true = empty_text (last [])
element_rest inner n false = keep_first (content inner) (end_tag n)

-- a start tag's `<`, with the first character of its name
abbrev pub IsTagStart : List ℕ → Type 0
IsTagStart text = (c : ℕ) × (text ≡ codes "<" ++ c ∷ []) × (is_name_start c ≡ true)

-- [39] element, in the scope around it, at this depth, with fewer than n levels of elements. Its
-- start marks its depth. Its whole start tag marks its wrong names. Its content is in the scope
-- of its declarations too.
abbrev pub element : ℕ → List (List Decl) → ℕ → Rule FaultKind Tree
element zero scope depth = no_text
element (suc n) scope depth =
    with_prefix_mark (Depth depth) IsTagStart
    (map_rule element_of
    (sequence (with_value_marks (IsTagFault scope) start_tag) (λ t.
    element_rest (element n (scope_inside_tag scope t) (depth + 1)) t.name t.is_empty)))

-- ---- documents

-- [1] document: optionally a byte order mark (U+FEFF), optionally an XML declaration, Misc, one
-- element, Misc. A fragment has the same form, in a scope.
abbrev pub document : ℕ → List (List Decl) → Rule FaultKind Tree
document n scope =
    keep_second (without_value (optional (word (0xFEFF ∷ []))))
    (keep_second
    (without_value (optional (with_value_marks MarksUnsupportedEncoding xml_declaration)))
    (keep_second prolog (keep_first (element n scope 1) epilog)))

-- ---- bodies that spell a value

-- raw characters and references: a reference that isn't whole isn't a beginning
abbrev pub unquoted_value : Rule FaultKind (List ℕ)
unquoted_value = map_rule normalized_value (between_gaps (char_run is_raw_char) (atomic reference))
