-- The text of an element: its texts, joined; a comment isn't a text.
use Rattle.std.specs.Prelude.{ℕ, List, ◌++◌}
use Rattle.xml_tree.specs.Tree.{Content, last, more, comment_node}

abbrev pub content_text : Content → List ℕ
content_text (last t) = t
content_text (comment_node t inside rest) = t ++ content_text rest
content_text (more t n ds ats k rest) = t ++ content_text rest
