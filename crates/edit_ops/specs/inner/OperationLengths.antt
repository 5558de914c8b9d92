-- Lengths of the parts of an operation's text, in bytes as UTF-8. XML 1.0, sections 2.3, 2.4 and
-- 3.1.
use Rattle.std.specs.Prelude.{ℕ, ◌+◌, List, [], ◌∷◌, flat_map}
use Rattle.xml_names.specs.Markup.{byte_len, print_text, value_escape}

-- a value as it is written between its quotes
abbrev pub value_text_len : List ℕ → ℕ
value_text_len v = byte_len (flat_map value_escape v)

-- an element without content, by the lengths of its local name, after a prefix of one letter, of
-- its declarations and of its attributes
abbrev pub empty_element_len : ℕ → ℕ → ℕ → ℕ
empty_element_len word decls attrs = word + decls + attrs + 5

-- an element with content of this length
abbrev pub full_element_len : ℕ → ℕ → ℕ → ℕ → ℕ
full_element_len word decls attrs inside = word + word + decls + attrs + inside + 9

-- an element with a text as its content, where an empty text isn't content
abbrev pub text_element_len : ℕ → ℕ → ℕ → List ℕ → ℕ
text_element_len word decls attrs [] = empty_element_len word decls attrs
text_element_len word decls attrs (c ∷ cs) =
    full_element_len word decls attrs (byte_len (print_text (c ∷ cs)))
