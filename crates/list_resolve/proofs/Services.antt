-- The services of a document, node by node.
use Rattle.std.proofs.Common.{◌≡◌, ℕ, List, [], ◌∷◌, Option, None, refl, sym, ap, ◌∙◌}
use Rattle.std.specs.Option.{option_or}
use Rattle.xml_tree.specs.Tree.{Content, last, more, comment_node, child_elements}
use Rattle.xml_tree.specs.Edits.{with_text_prepended}
use Rattle.xml_tree.specs.Nodes.{content_of}
use Rattle.xml_tree.specs.declared.tree.Node.{Node}
use Rattle.xml_tree.specs.declared.tree.Node.TheVariants.{Elem, Chars, Comment}
use Rattle.list_resolve.specs.ScopedElements.{ScopedElement}
use Rattle.list_resolve.specs.FlatLists.{first_service, service_element}

abbrev pub first_among : List ℕ → ScopedElement → List Node → Option ScopedElement
first_among uri root [] = None
first_among uri root (Elem e ∷ ns) = option_or (service_element uri root e) (first_among uri root ns)
first_among uri root (Chars t ∷ ns) = first_among uri root ns
first_among uri root (Comment x ∷ ns) = first_among uri root ns

kids_before : (t : List ℕ) (c : Content) → child_elements (with_text_prepended t c) ≡ child_elements c
kids_before t (last u) = refl
kids_before t (more u n ds ats k rest) = refl
kids_before t (comment_node u x rest) = refl

first_is : (uri : List ℕ) (root : ScopedElement) (ns : List Node) → first_among uri root ns ≡ first_service uri root (child_elements (content_of ns))
first_is uri root [] = refl
first_is uri root (Elem e ∷ ns) = ap (option_or (service_element uri root e)) (first_is uri root ns)
first_is uri root (Chars t ∷ ns) = first_is uri root ns ∙ ap (first_service uri root) (sym (kids_before t (content_of ns)))
first_is uri root (Comment x ∷ ns) = first_is uri root ns

pub all_services : (uri : List ℕ) (root : ScopedElement) (ns : List Node) (content : Content) → content_of ns ≡ content → first_among uri root ns ≡ first_service uri root (child_elements content)
all_services uri root ns content e = first_is uri root ns ∙ ap (λ c. first_service uri root (child_elements c)) e
