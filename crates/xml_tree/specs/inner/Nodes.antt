-- Lists of nodes as the code changes them.
use Rattle.std.specs.Prelude.{ℕ, zero, suc, Bool, false, List, [], ◌∷◌, ◌++◌, Option, None, Some}
use Rattle.std.specs.Prelude.{slice_set, remove}
use Rattle.xml_tree.specs.declared.tree.Node.{Node}
use Rattle.xml_tree.specs.declared.tree.Node.TheVariants.{Elem, Chars, Comment}
use Rattle.xml_tree.specs.Nodes.{is_text}

-- a text with these characters appended; other nodes as they are
abbrev pub with_text_appended : List ℕ → Node → Node
with_text_appended s (Elem e) = Elem e
with_text_appended s (Chars t) = Chars (t ++ s)
with_text_appended s (Comment c) = Comment c

-- whether the last node is a text
abbrev pub ends_in_text : List Node → Bool
ends_in_text [] = false
ends_in_text (x ∷ []) = is_text x
ends_in_text (x ∷ y ∷ ns) = ends_in_text (y ∷ ns)

-- without the i-th node; the texts beside it are replaced by one, if one is given
abbrev pub without_node : ℕ → Option (List ℕ) → List Node → List Node
without_node zero t ns = remove ns 0
without_node (suc i) None ns = remove ns (suc i)
without_node (suc i) (Some t) ns = slice_set (remove (remove ns (suc i)) (suc i)) i (Chars t)
