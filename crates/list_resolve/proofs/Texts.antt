-- The text of an element, and leading and trailing white space of a text.
use Rattle.std.proofs.Common.{◌≡◌, ℕ, Bool, true, false, ◌&&◌, List, [], ◌∷◌, ◌++◌, refl, sym, ap, ◌∙◌, append_assoc, if◌then◌else◌, arith}
use Rattle.std.specs.Str.{bytes_eq}
use Rattle.xml_tree.specs.Tree.{Content, last, more, comment_node}
use Rattle.xml_tree.specs.Edits.{with_text_prepended}
use Rattle.xml_tree.specs.Nodes.{content_of}
use Rattle.xml_tree.specs.declared.tree.Node.{Node}
use Rattle.xml_tree.specs.declared.tree.Node.TheVariants.{Elem, Chars, Comment}
use Rattle.usage_docs.specs.ReferenceForms.{trim_back}
use Rattle.usage_docs.specs.ContentTexts.{content_text}

-- ---- the text of nodes

abbrev pub nodes_text : List Node → List ℕ
nodes_text [] = []
nodes_text (Elem e ∷ ns) = nodes_text ns
nodes_text (Chars t ∷ ns) = t ++ nodes_text ns
nodes_text (Comment x ∷ ns) = nodes_text ns

text_before : (t : List ℕ) (c : Content) → content_text (with_text_prepended t c) ≡ t ++ content_text c
text_before t (last u) = refl
text_before t (more u n ds ats k rest) = append_assoc t u (content_text rest)
text_before t (comment_node u x rest) = append_assoc t u (content_text rest)

nodes_are : (ns : List Node) → nodes_text ns ≡ content_text (content_of ns)
nodes_are [] = refl
nodes_are (Elem e ∷ ns) = nodes_are ns
nodes_are (Chars t ∷ ns) = ap (λ u. t ++ u) (nodes_are ns) ∙ sym (text_before t (content_of ns))
nodes_are (Comment x ∷ ns) = nodes_are ns

pub all_text : (ns : List Node) (content : Content) → content_of ns ≡ content → nodes_text ns ≡ content_text content
all_text ns content e = nodes_are ns ∙ ap content_text e

-- ---- trailing white space

nil_not : (xs : List ℕ) (x : ℕ) → bytes_eq (xs ++ x ∷ []) [] ≡ false
nil_not [] x = refl
nil_not (y ∷ xs) x = refl

pub back_white : (white : ℕ → Bool) (xs : List ℕ) (x : ℕ) → white x ≡ true → trim_back white (xs ++ x ∷ []) ≡ trim_back white xs
back_white white [] x h = rw h refl
back_white white (y ∷ xs) x h = rw (back_white white xs x h) refl

kept : (white : ℕ → Bool) (y : ℕ) (xs : List ℕ) (x : ℕ) → (if white y && false then [] else (y ∷ (xs ++ x ∷ []))) ≡ y ∷ (xs ++ x ∷ [])
kept white y xs x = grind arith

pub back_other : (white : ℕ → Bool) (xs : List ℕ) (x : ℕ) → white x ≡ false → trim_back white (xs ++ x ∷ []) ≡ xs ++ x ∷ []
back_other white [] x h = rw h refl
back_other white (y ∷ xs) x h = rw (back_other white xs x h, nil_not xs x) (kept white y xs x)
