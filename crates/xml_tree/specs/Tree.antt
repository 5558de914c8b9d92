-- The tree that contracts see in an element (XML 1.0, 3 and 3.1; Namespaces in XML 1.0, 3).
use Rattle.std.specs.Prelude.{ℕ, suc, max, List, [], ◌∷◌, Option, Some, option_and_then, slice_get}
use Rattle.xml_names.specs.declared.names.Name.{Name}
use Rattle.xml_names.specs.declared.names.Decl.{Decl}
use Rattle.xml_names.specs.declared.names.Attr.{Attr}

-- The content of an element. Each part begins with a text, and an empty text means that there is
-- none. So no text is empty and no two texts meet: a content is normal by its form.
--     last t                     the text t, and nothing after it
--     more t n ds ats c rest     the text t, an element with these parts, and the rest
--     comment_node t c rest      the text t, a comment with the inside c, and the rest
pub data Content : Type 0 where
  last : List ℕ → Content
  more : List ℕ → Name → List Decl → List Attr → Content → Content → Content
  comment_node : List ℕ → List ℕ → Content → Content

-- an element
pub record Tree : Type 0 where
  pub name : Name
  pub decls : List Decl
  pub attrs : List Attr
  pub content : Content

-- the element with these parts
abbrev pub tree_of : Name → List Decl → List Attr → Content → Tree
tree_of n ds ats c = record { name = n; decls = ds; attrs = ats; content = c }

-- content that begins with this text and this element
abbrev pub more_of : List ℕ → Tree → Content → Content
more_of t e rest = more t e.name e.decls e.attrs e.content rest

-- content of these elements, without any text or comment
abbrev pub content_of_children : List Tree → Content
content_of_children [] = last []
content_of_children (e ∷ es) = more_of [] e (content_of_children es)

-- ---- depth

-- how many levels of elements a content has
abbrev pub content_height : Content → ℕ
content_height (last t) = 0
content_height (more t n ds ats c rest) = max (suc (content_height c)) (content_height rest)
content_height (comment_node t c rest) = content_height rest

-- how many levels an element has: 1 for an element without child elements
abbrev pub height : Tree → ℕ
height e = suc (content_height e.content)

-- ---- child elements, and places

-- the child elements, in order
abbrev pub child_elements : Content → List Tree
child_elements (last t) = []
child_elements (more t n ds ats c rest) = tree_of n ds ats c ∷ child_elements rest
child_elements (comment_node t c rest) = child_elements rest

abbrev pub child_elements_of : Tree → List Tree
child_elements_of e = child_elements e.content

-- the element at a path, which is a list of child-element numbers from the root down; none if a
-- number is too large
abbrev pub at : List ℕ → Tree → Option Tree
at [] e = Some e
at (n ∷ p) e = option_and_then (at p) (slice_get (child_elements_of e) n)
