-- The values of the pieces of a text: the parts of a tag, and content built from left to right.
use Rattle.std.specs.Prelude.{ℕ, Bool, List, [], ◌∷◌, ◌==◌}
use Rattle.xml_tree.specs.Tree.{Content, Tree}
use Rattle.xml_tree.specs.Edits.{with_text, with_elem, with_comment}
use Rattle.xml_names.specs.declared.names.Name.{Name}
use Rattle.tree_text.specs.declared.raw_attribute.RawAttribute.{RawAttribute}

-- a start tag, or the tag of an empty element
pub record StartTag : Type 0 where
  pub name : Name
  pub raw_attribute : List RawAttribute
  pub is_empty : Bool
  pub size : ℕ  -- how many characters it has

-- a piece of markup between the runs of characters of content, and what it spells
pub data Markup : Type 0 where
  Reference : ℕ → Markup  -- a reference: its character
  Section : List ℕ → Markup  -- a CDATA section: its text
  Comment : List ℕ → Markup  -- a comment: its text
  Instruction : Markup  -- a processing instruction, which spells nothing
  Inner : Tree → Markup  -- an element

-- content with a piece of markup appended
abbrev pub with_markup : Markup → Content → Content
with_markup (Reference c) content = with_text (c ∷ []) content
with_markup (Section cs) content = with_text cs content
with_markup (Comment cs) content = with_comment cs content
with_markup Instruction content = content
with_markup (Inner tree) content = with_elem tree content

-- content with all these pieces appended, in order, each markup with the characters that follow
-- it
abbrev pub with_pieces : Content → List (Markup × List ℕ) → Content
with_pieces content [] = content
with_pieces content ((m, cs) ∷ pieces) = with_pieces (with_text cs (with_markup m content)) pieces
