-- The print of a tree: one text of the many that XML 1.0 allows for it (sections 2.2, 2.4, 2.5,
-- 2.11, 3.1 and 3.3.3).
use Rattle.std.specs.Prelude.{ℕ, Bool, true, false, ◌==◌, codes, List, [], ◌∷◌, ◌++◌, if◌then◌else◌}
use Rattle.xml_tree.specs.Tree.{Content, last, more, comment_node, Tree}
use Rattle.xml_names.specs.declared.names.Name.{Name}
use Rattle.xml_names.specs.Markup.{end_tag_text, tag_front, print_comment, print_text}

-- whether a content has no nodes
abbrev pub is_empty : Content → Bool
is_empty (last []) = true
is_empty (last (x ∷ t)) = false
is_empty (more t n ds ats c rest) = false
is_empty (comment_node t x rest) = false

-- what follows the attributes: `/>` where there are no nodes, else `>` (62), the nodes and the
-- end tag
abbrev pub rest_of_element : Name → Bool → List ℕ → List ℕ
rest_of_element n empty inside = if empty then codes "/>" else (62 ∷ (inside ++ end_tag_text n))

-- the nodes of a content in order
abbrev pub print_content : Content → List ℕ
print_content (last t) = print_text t
print_content (more t n ds ats c rest) =
    print_text t
    ++ ((tag_front n ds ats ++ rest_of_element n (is_empty c) (print_content c))
    ++ print_content rest)
print_content (comment_node t x rest) = print_text t ++ (print_comment x ++ print_content rest)

-- an element
abbrev pub print : Tree → List ℕ
print e =
    tag_front e.name e.decls e.attrs ++ rest_of_element e.name (is_empty e.content)
    (print_content e.content)

-- the XML declaration, and a line feed
abbrev pub header : List ℕ
header = codes "<?xml version=\"1.0\" encoding=\"UTF-8\"?>\n"

-- a document: the declaration, and its root element; nothing follows
abbrev pub document_print : Tree → List ℕ
document_print root = header ++ print root
