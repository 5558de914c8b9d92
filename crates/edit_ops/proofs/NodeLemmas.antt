-- Nodes before and after a place, and their content with an element between them or without one.
use Rattle.std.proofs.Common.{◌≡◌, ℕ, zero, suc, ◌<◌, ◌≤◌, List, [], ◌∷◌, ◌++◌, length, take, drop, refl, sym, ap, ◌∙◌, arith}
use Rattle.xml_tree.specs.Tree.{Tree, child_elements, more_of, comment_node}
use Rattle.xml_tree.specs.Edits.{with_text_prepended, change_element, cut, put}
use Rattle.xml_tree.specs.Nodes.{content_of, gap_place, place}
use Rattle.xml_tree.specs.declared.tree.Node.{Node}
use Rattle.xml_tree.specs.declared.tree.Node.TheVariants.{Elem, Chars, Comment}
use Rattle.xml_tree.proofs.Places.{before-nil, change_element-before, child_elements-before, put-before}
use Rattle.xml_tree.proofs.Removals.{cut-before}

-- an element inserted between the nodes up to the j-th element and those after it
put_behind : (j : ℕ) (ns : List Node) (e : Tree) → j < length (child_elements (content_of ns))
    → content_of (take (suc (place j ns)) ns ++ Elem e ∷ drop (suc (place j ns)) ns) ≡ put (suc j) e (content_of ns)
put_behind j [] e h = absurd (omega arith)
put_behind j (Chars t ∷ ns) e h = ap (with_text_prepended t) (put_behind j ns e (rw child_elements-before at h)) ∙ sym (put-before t (content_of ns) j e)
put_behind j (Comment c ∷ ns) e h = ap (comment_node [] c) (put_behind j ns e h)
put_behind zero (Elem k ∷ ns) e h = refl
put_behind (suc j) (Elem k ∷ ns) e h = ap (more_of [] k) (put_behind j ns e (omega arith))

pub put_between : (j : ℕ) (ns : List Node) (e : Tree) → j ≤ length (child_elements (content_of ns))
    → content_of (take (gap_place j ns) ns ++ Elem e ∷ drop (gap_place j ns) ns) ≡ put j e (content_of ns)
put_between zero ns e h = refl
put_between (suc j) ns e h = put_behind j ns e (omega arith)

-- an element inserted between the nodes before the n-th element and those after it
pub put_instead : (n : ℕ) (ns : List Node) (e : Tree) → n < length (child_elements (content_of ns))
    → content_of (take (place n ns) ns ++ Elem e ∷ drop (suc (place n ns)) ns) ≡ change_element n (λ _. e) (content_of ns)
put_instead n [] e h = absurd (omega arith)
put_instead n (Chars t ∷ ns) e h = ap (with_text_prepended t) (put_instead n ns e (rw child_elements-before at h)) ∙ sym (change_element-before t (content_of ns) n (λ _. e))
put_instead n (Comment c ∷ ns) e h = ap (comment_node [] c) (put_instead n ns e h)
put_instead zero (Elem k ∷ ns) e h = refl
put_instead (suc n) (Elem k ∷ ns) e h = ap (more_of [] k) (put_instead n ns e (omega arith))

-- the nodes before the n-th element, and those after it
pub left_out : (n : ℕ) (ns : List Node) → n < length (child_elements (content_of ns)) → content_of (take (place n ns) ns ++ drop (suc (place n ns)) ns) ≡ cut n (content_of ns)
left_out n [] h = absurd (omega arith)
left_out n (Chars t ∷ ns) h = ap (with_text_prepended t) (left_out n ns (rw child_elements-before at h)) ∙ sym (cut-before t (content_of ns) n)
left_out n (Comment c ∷ ns) h = ap (comment_node [] c) (left_out n ns h)
left_out zero (Elem k ∷ ns) h = sym (before-nil (content_of ns))
left_out (suc n) (Elem k ∷ ns) h = ap (more_of [] k) (left_out n ns (omega arith))

pub ruleset parts = (put_between, put_instead, left_out)
