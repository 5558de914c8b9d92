-- The text of an element, read node by node.
use Rattle.std.proofs.Common.{◌≡◌, ℕ, List, [], ◌∷◌, ◌++◌, fold, refl, ap, sym, ◌∙◌, append_assoc}
use Rattle.xml_tree.specs.Tree.{Content, last, more, comment_node}
use Rattle.xml_tree.specs.Edits.{with_text_prepended}
use Rattle.xml_tree.specs.Nodes.{content_of}
use Rattle.xml_tree.specs.declared.tree.Node.{Node}
use Rattle.xml_tree.specs.declared.tree.Node.TheVariants.{Elem, Chars, Comment}
use Rattle.usage_docs.specs.declared.address_states.AddressState.{AddressState}
use Rattle.usage_docs.specs.ContentTexts.{content_text}

abbrev pub after_nodes : (AddressState → ℕ → AddressState) → AddressState → List Node → AddressState
after_nodes f a [] = a
after_nodes f a (Elem e ∷ ns) = after_nodes f a ns
after_nodes f a (Chars t ∷ ns) = after_nodes f (fold f a t) ns
after_nodes f a (Comment x ∷ ns) = after_nodes f a ns

text_before : (t : List ℕ) (c : Content) → content_text (with_text_prepended t c) ≡ t ++ content_text c
text_before t (last u) = refl
text_before t (more u n ds ats k rest) = append_assoc t u (content_text rest)
text_before t (comment_node u x rest) = append_assoc t u (content_text rest)

fold_two : (f : AddressState → ℕ → AddressState) (a : AddressState) (t u : List ℕ) → fold f a (t ++ u) ≡ fold f (fold f a t) u
fold_two f a [] u = refl
fold_two f a (c ∷ t) u = fold_two f (f a c) t u

nodes_read : (f : AddressState → ℕ → AddressState) (ns : List Node) (a : AddressState) → after_nodes f a ns ≡ fold f a (content_text (content_of ns))
nodes_read f [] a = refl
nodes_read f (Elem e ∷ ns) a = nodes_read f ns a
nodes_read f (Chars t ∷ ns) a = nodes_read f ns (fold f a t) ∙ sym (ap (fold f a) (text_before t (content_of ns)) ∙ fold_two f a t (content_text (content_of ns)))
nodes_read f (Comment x ∷ ns) a = nodes_read f ns a

pub all_read : (f : AddressState → ℕ → AddressState) (ns : List Node) (a : AddressState) (content : Content) → content_of ns ≡ content → after_nodes f a ns ≡ fold f a (content_text content)
all_read f ns a content e = nodes_read f ns a ∙ ap (λ c. fold f a (content_text c)) e
