-- Lists of nodes, and the content that each stands for.
use Rattle.std.specs.Prelude.{ℕ, zero, suc, Bool, true, false, List, [], ◌∷◌, ◌++◌, Option, None}
use Rattle.std.specs.Prelude.{Some, take, drop, option_and_then, slice_get}
use Rattle.xml_tree.specs.Tree.{Content, last, more, comment_node, more_of, Tree, tree_of, height}
use Rattle.xml_tree.specs.Edits.{with_text_prepended, IsNonEmpty}
use Rattle.xml_tree.specs.declared.tree.Node.{Node}
use Rattle.xml_tree.specs.declared.tree.Node.TheVariants.{Elem, Chars, Comment}

-- the content that nodes stand for: texts that meet are joined, and empty ones are dropped
abbrev pub content_of : List Node → Content
content_of [] = last []
content_of (Elem e ∷ ns) = more_of [] e (content_of ns)
content_of (Chars t ∷ ns) = with_text_prepended t (content_of ns)
content_of (Comment c ∷ ns) = comment_node [] c (content_of ns)

-- a text as a node; none if it is empty
abbrev pub text_node : List ℕ → List Node
text_node [] = []
text_node (c ∷ cs) = Chars (c ∷ cs) ∷ []

-- the nodes of a content
abbrev pub nodes_of : Content → List Node
nodes_of (last t) = text_node t
nodes_of (more t n ds ats c rest) = text_node t ++ Elem (tree_of n ds ats c) ∷ nodes_of rest
nodes_of (comment_node t c rest) = text_node t ++ Comment c ∷ nodes_of rest

-- the first node isn't a text
abbrev pub StartsWithoutText : List Node → Type 0
StartsWithoutText [] = Unit {0}
StartsWithoutText (Elem e ∷ ns) = Unit {0}
StartsWithoutText (Chars t ∷ ns) = ⊥
StartsWithoutText (Comment c ∷ ns) = Unit {0}

-- no text is empty, and no two texts meet
abbrev pub AreNormalized : List Node → Type 0
AreNormalized [] = Unit {0}
AreNormalized (Elem e ∷ ns) = AreNormalized ns
AreNormalized (Chars t ∷ ns) = IsNonEmpty t × StartsWithoutText ns × AreNormalized ns
AreNormalized (Comment c ∷ ns) = AreNormalized ns

-- how many levels of elements a node has
abbrev pub node_height : Node → ℕ
node_height (Elem e) = height e
node_height (Chars t) = 0
node_height (Comment c) = 0

-- ---- kinds of nodes

-- whether a node is a text
abbrev pub is_text : Node → Bool
is_text (Elem e) = false
is_text (Chars t) = true
is_text (Comment c) = false

-- the element that a node is, if it is one
abbrev pub elem_of : Node → Option Tree
elem_of (Elem e) = Some e
elem_of (Chars t) = None
elem_of (Comment c) = None

-- the text that a node is, if it is one
abbrev pub text_of : Node → Option (List ℕ)
text_of (Elem e) = None
text_of (Chars t) = Some t
text_of (Comment c) = None

-- the element that is the last node, where it is one
abbrev pub last_elem : List Node → Option Tree
last_elem [] = None
last_elem (x ∷ []) = elem_of x
last_elem (x ∷ y ∷ ns) = last_elem (y ∷ ns)

-- ---- places among nodes

-- the place of the n-th element, or the number of nodes if there are fewer elements
abbrev pub place : ℕ → List Node → ℕ
place n [] = 0
place n (Chars t ∷ ns) = suc (place n ns)
place n (Comment c ∷ ns) = suc (place n ns)
place zero (Elem e ∷ ns) = 0
place (suc n) (Elem e ∷ ns) = suc (place n ns)

-- the place of a gap: before all nodes, or after an element
abbrev pub gap_place : ℕ → List Node → ℕ
gap_place zero ns = 0
gap_place (suc n) ns = suc (place n ns)

-- the text that is the i-th node, if it is one
abbrev pub text_at : ℕ → List Node → Option (List ℕ)
text_at i ns = option_and_then text_of (slice_get ns i)

-- two texts concatenated, where both are there
abbrev pub concat_texts : Option (List ℕ) → Option (List ℕ) → Option (List ℕ)
concat_texts None u = None
concat_texts (Some t) None = None
concat_texts (Some t) (Some u) = Some (t ++ u)

-- the texts directly before and after the i-th node, joined, where both nodes there are texts
abbrev pub joined_neighbor_texts : ℕ → List Node → Option (List ℕ)
joined_neighbor_texts zero ns = None
joined_neighbor_texts (suc i) ns = concat_texts (text_at i ns) (text_at (suc (suc i)) ns)

-- ---- runs of nodes

-- a content whose nodes from one place to before another are replaced by others; texts that meet
-- are joined, and empty ones are dropped
abbrev pub exchange_in_content : ℕ → ℕ → List Node → Content → Content
exchange_in_content from to new c =
    content_of (take from (nodes_of c) ++ (new ++ drop to (nodes_of c)))

abbrev pub exchange_nodes : ℕ → ℕ → List Node → Tree → Tree
exchange_nodes from to new e = record e { content = exchange_in_content from to new e.content }
