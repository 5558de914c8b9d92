-- Each element in an element has fewer levels than it.
use Rattle.std.specs.Prelude.{◌≡◌, ◌≤◌, ℕ, suc, List, [], ◌∷◌}
use Rattle.std.proofs.Common.{refl, arith}
use denote.Param.Weighed.{most}
use Rattle.xml_tree.specs.Tree.{Content, last, more, comment_node, content_height}
use Rattle.xml_tree.specs.Edits.{with_text_prepended}
use Rattle.xml_tree.specs.Nodes.{content_of}
use Rattle.xml_tree.specs.declared.tree.Node.{Node}
use Rattle.xml_tree.specs.declared.tree.Node.TheVariants.{Elem, Chars, Comment}
use Rattle.xml_tree.specs.declared.tree.Element.TheDeep.{deep-Node}

pub content_height-before : (t : List ℕ) (c : Content)
    → content_height (with_text_prepended t c) ≡ content_height c
content_height-before t (last u) = refl
content_height-before t (more u n ds ats c rest) = refl
content_height-before t (comment_node u c rest) = refl

-- no node has more levels than the content that the nodes stand for
pub most_le-content_height : (ns : List Node)
    → most deep-Node ns ≤ suc (content_height (content_of ns))
most_le-content_height [] = omega arith
most_le-content_height (Elem e ∷ ns) = omega (arith, most_le-content_height ns)
most_le-content_height (Chars t ∷ ns) =
    omega (arith, most_le-content_height ns, content_height-before t (content_of ns))
most_le-content_height (Comment c ∷ ns) = omega (arith, most_le-content_height ns)
