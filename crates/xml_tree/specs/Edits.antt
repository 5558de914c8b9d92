-- Changes of a tree: of a content, of one element, and of the element at a path.
use Rattle.std.specs.Prelude.{ℕ, zero, suc, List, [], ◌∷◌, ◌++◌, Option, IsSomeAnd, option_and_then}
use Rattle.std.specs.Prelude.{find}
use Rattle.xml_tree.specs.Tree.{Content, last, more, comment_node, more_of, Tree, tree_of, at}
use Rattle.xml_names.specs.Attributes.{with_attr, without_attr, with_value_at, has_qname}
use Rattle.xml_names.specs.declared.names.Name.{Name}
use Rattle.xml_names.specs.declared.names.Attr.{Attr}

-- ---- content

-- the text isn't empty
abbrev pub IsNonEmpty : List ℕ → Type 0
IsNonEmpty [] = ⊥
IsNonEmpty (c ∷ cs) = Unit {0}

-- the text that a content begins with
abbrev pub first_text : Content → List ℕ
first_text (last t) = t
first_text (more t n ds ats c rest) = t
first_text (comment_node t c rest) = t

-- with a text prepended, which joins the first one
abbrev pub with_text_prepended : List ℕ → Content → Content
with_text_prepended t (last u) = last (t ++ u)
with_text_prepended t (more u n ds ats c rest) = more (t ++ u) n ds ats c rest
with_text_prepended t (comment_node u c rest) = comment_node (t ++ u) c rest

-- with a text appended, which joins the last one
abbrev pub with_text : List ℕ → Content → Content
with_text s (last t) = last (t ++ s)
with_text s (more t n ds ats c rest) = more t n ds ats c (with_text s rest)
with_text s (comment_node t c rest) = comment_node t c (with_text s rest)

-- with an element appended
abbrev pub with_elem : Tree → Content → Content
with_elem e (last t) = more_of t e (last [])
with_elem e (more t n ds ats c rest) = more t n ds ats c (with_elem e rest)
with_elem e (comment_node t c rest) = comment_node t c (with_elem e rest)

-- with a comment appended
abbrev pub with_comment : List ℕ → Content → Content
with_comment s (last t) = comment_node t s (last [])
with_comment s (more t n ds ats c rest) = more t n ds ats c (with_comment s rest)
with_comment s (comment_node t c rest) = comment_node t c (with_comment s rest)

-- with an element in a gap: gap 0 is before everything, gap j directly after the j-th element
abbrev pub put : ℕ → Tree → Content → Content
put zero e c = more_of [] e c
put (suc j) e (last t) = last t
put (suc j) e (more t n ds ats c rest) = more t n ds ats c (put j e rest)
put (suc j) e (comment_node t c rest) = comment_node t c (put (suc j) e rest)

-- without its i-th element, counted from 0; the texts beside it are joined
abbrev pub cut : ℕ → Content → Content
cut i (last t) = last t
cut zero (more t n ds ats c rest) = with_text_prepended t rest
cut (suc i) (more t n ds ats c rest) = more t n ds ats c (cut i rest)
cut i (comment_node t c rest) = comment_node t c (cut i rest)

-- texts are directly on both sides of the i-th element, so they meet where it is removed
abbrev pub TextsMeet : ℕ → Content → Type 0
TextsMeet i (last t) = ⊥
TextsMeet zero (more t n ds ats c rest) = IsNonEmpty t × IsNonEmpty (first_text rest)
TextsMeet (suc i) (more t n ds ats c rest) = TextsMeet i rest
TextsMeet i (comment_node t c rest) = TextsMeet i rest

-- with its i-th element changed by f
abbrev pub change_element : ℕ → (Tree → Tree) → Content → Content
change_element i f (last t) = last t
change_element zero f (more t n ds ats c rest) = more_of t (f (tree_of n ds ats c)) rest
change_element (suc i) f (more t n ds ats c rest) = more t n ds ats c (change_element i f rest)
change_element i f (comment_node t c rest) = comment_node t c (change_element i f rest)

-- ---- one element

abbrev pub put_kid : ℕ → Tree → Tree → Tree
put_kid j k e = record e { content = put j k e.content }

abbrev pub cut_child : ℕ → Tree → Tree
cut_child i e = record e { content = cut i e.content }

abbrev pub change_child : ℕ → (Tree → Tree) → Tree → Tree
change_child n f e = record e { content = change_element n f e.content }

abbrev pub change_attr : ℕ → List ℕ → Tree → Tree
change_attr i v e = record e { attrs = with_value_at i v e.attrs }

abbrev pub set_attr_value : Name → List ℕ → Tree → Tree
set_attr_value n v e = record e { attrs = with_attr n v e.attrs }

abbrev pub drop_attr : Name → Tree → Tree
drop_attr n e = record e { attrs = without_attr n e.attrs }

-- ---- the element at a path, and nothing else

-- the last number of a path; 0 for the empty path
abbrev pub last_number : List ℕ → ℕ
last_number [] = 0
last_number (n ∷ []) = n
last_number (n ∷ m ∷ p) = last_number (m ∷ p)

-- a path without its last number
abbrev pub parent_path : List ℕ → List ℕ
parent_path [] = []
parent_path (n ∷ []) = []
parent_path (n ∷ m ∷ p) = n ∷ parent_path (m ∷ p)

-- the element at the path is changed by f
abbrev pub change_at : List ℕ → (Tree → Tree) → Tree → Tree
change_at [] f e = f e
change_at (n ∷ p) f e = change_child n (change_at p f) e

-- an element is inserted into a gap of the element at the path
abbrev pub put_in : List ℕ → ℕ → Tree → Tree → Tree
put_in p j k = change_at p (put_kid j k)

-- the n-th child element of the element at the path is removed, and texts that meet are joined
abbrev pub take_in : List ℕ → ℕ → Tree → Tree
take_in p n = change_at p (cut_child n)

-- the element at the path is replaced
abbrev pub put_over : List ℕ → Tree → Tree → Tree
put_over p w = change_at p (λ _. w)

-- the element at the path, which isn't the root, is removed, and texts that meet are joined
abbrev pub cut_out : List ℕ → Tree → Tree
cut_out p = take_in (parent_path p) (last_number p)

-- texts are directly on both sides of the element at the path, which isn't the root
abbrev pub TextsMeetAt : List ℕ → Tree → Type 0
TextsMeetAt p t =
    IsSomeAnd (at (parent_path p) t) (λ parent. TextsMeet (last_number p) parent.content)

-- the attribute of this name of the element at the path
abbrev pub attr_at : List ℕ → Name → Tree → Option Attr
attr_at p n t = option_and_then (λ e. find (has_qname n) e.attrs) (at p t)

-- an attribute of the element at the path is written, or removed
abbrev pub set_attr_at : List ℕ → Name → List ℕ → Tree → Tree
set_attr_at p n v = change_at p (set_attr_value n v)

abbrev pub drop_attr_at : List ℕ → Name → Tree → Tree
drop_attr_at p n = change_at p (drop_attr n)
