-- The prefixes that an element and the elements in it declare, as a list. Namespaces in XML 1.0,
-- section 3.
use Rattle.std.specs.Prelude.{ℕ, List, [], ◌++◌, map}
use Rattle.xml_tree.specs.Tree.{Content, last, more, comment_node}
use Rattle.xml_names.specs.declared.names.Decl.{Decl}

abbrev pub declared_prefixes : List Decl → List (List ℕ)
declared_prefixes ds = map (λ d. d.prefix) ds

-- the prefixes that all elements of a content declare
abbrev pub content_prefixes : Content → List (List ℕ)
content_prefixes (last t) = []
content_prefixes (more t n ds ats c rest) =
    declared_prefixes ds ++ (content_prefixes c ++ content_prefixes rest)
content_prefixes (comment_node t x rest) = content_prefixes rest
