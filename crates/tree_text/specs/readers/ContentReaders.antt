-- The members of repetitions, as loops read them.
use Rattle.std.specs.Prelude.{ℕ, Bool, List}
use Rattle.xml_grammar.specs.TextReading.{Reader, read_sequence, read_mapped}
use Rattle.xml_tree.specs.Edits.{with_text}
use Rattle.xml_tree.specs.Tree.{Content, Tree}
use Rattle.xml_names.specs.declared.names.Name.{Name}
use Rattle.xml_tokens.specs.declared.fault_kind.FaultKind.{FaultKind}
use Rattle.tree_text.specs.ContentPieces.{Markup, Inner, with_markup, with_pieces}
use Rattle.xml_tokens.specs.readers.Tokens.{read_chars}
use Rattle.tree_text.specs.readers.Texts.{read_raw_chars, read_whole_reference, read_markup}
use Rattle.tree_text.specs.readers.Texts.{read_content, read_element_rest}

-- a reference of a spelling, and the raw characters after it
abbrev pub read_reference_piece : Reader FaultKind (ℕ × List ℕ)
read_reference_piece = read_sequence read_whole_reference (λ _. read_raw_chars)

-- an element so far, and the pieces of content that follow
abbrev pub tree_with_pieces : Tree → List (Markup × List ℕ) → Tree
tree_with_pieces tree pieces = record tree { content = with_pieces tree.content pieces }

-- an element so far, and markup that follows
abbrev pub tree_with_markup : Tree → Markup → Tree
tree_with_markup tree one = record tree { content = with_markup one tree.content }

-- markup, and the characters after it
abbrev pub read_markup_piece : Reader FaultKind Tree → Reader FaultKind (Markup × List ℕ)
read_markup_piece inner = read_sequence (read_markup inner) (λ _. read_chars)

-- an element, to which the markup that is read is added, or a child
abbrev pub read_markup_onto : Tree → Reader FaultKind Tree → Reader FaultKind Tree
read_markup_onto tree inner = read_mapped (tree_with_markup tree) (read_markup inner)

abbrev pub read_child : Tree → Reader FaultKind Tree → Reader FaultKind Tree
read_child tree inner = read_mapped (tree_with_markup tree) (read_mapped Inner inner)

-- an element with the characters that follow its content
abbrev pub tree_with_chars : Tree → List ℕ → Tree
tree_with_chars tree cs = record tree { content = with_text cs tree.content }

abbrev pub read_chars_onto : Tree → Reader FaultKind Tree
read_chars_onto tree = read_mapped (tree_with_chars tree) read_chars

-- an element with this content
abbrev pub tree_with_content : Tree → Content → Tree
tree_with_content tree content = record tree { content = content }

-- an element, whose content is read, or all that follows its tag
abbrev pub read_tree_content : Tree → Reader FaultKind Tree → Reader FaultKind Tree
read_tree_content tree inner = read_mapped (tree_with_content tree) (read_content inner)

abbrev pub read_tree_after_tag : Tree → Reader FaultKind Tree → Name → Bool → Reader FaultKind Tree
read_tree_after_tag tree inner n is_empty =
    read_mapped (tree_with_content tree) (read_element_rest inner n is_empty)
