-- The functions on the content of an operation, stated on its nodes.
use Rattle.std.specs.Prelude.{ℕ, Bool, true, false, ◌&&◌, List, [], ◌∷◌, ◌++◌, Option, None, Some}
use Rattle.std.specs.Prelude.{option_map}
use Rattle.std.specs.List.{list_all}
use Rattle.xml_names.specs.ExpandedNames.{attr_name, element_name, same_expanded}
use Rattle.xml_tree.specs.Tree.{Tree}
use Rattle.xml_names.specs.declared.names.Decl.{Decl}
use Rattle.xml_tree.specs.declared.tree.Node.{Node}
use Rattle.xml_tree.specs.declared.tree.Node.TheVariants.{Elem, Chars, Comment}
use Rattle.patch_rules.specs.PatchOperations.{is_white_space, names_agree}

-- the texts joined, where no element is among the nodes; comments are ignored
abbrev pub joined_text : List Node → Option (List ℕ)
joined_text [] = Some []
joined_text (Elem e ∷ ns) = None
joined_text (Chars t ∷ ns) = option_map (λ v. t ++ v) (joined_text ns)
joined_text (Comment x ∷ ns) = joined_text ns

-- an element, a comment, or white space
abbrev pub is_element_or_blank : Node → Bool
is_element_or_blank (Elem e) = true
is_element_or_blank (Chars t) = is_white_space t
is_element_or_blank (Comment x) = true

-- a comment
abbrev pub is_comment : Node → Bool
is_comment (Elem e) = false
is_comment (Chars t) = false
is_comment (Comment x) = true

-- each name in an element, or in a node, means the same in two scopes around it
abbrev pub element_names_agree : List (List Decl) → List (List Decl) → Tree → Bool
element_names_agree c d e =
    same_expanded (element_name (c ++ e.decls ∷ []) e.name)
    (element_name (d ++ e.decls ∷ []) e.name)
    && (list_all (λ a.
    same_expanded (attr_name (c ++ e.decls ∷ []) a.name) (attr_name (d ++ e.decls ∷ []) a.name))
    e.attrs
    && names_agree (c ++ e.decls ∷ []) (d ++ e.decls ∷ []) e.content)

abbrev pub node_names_agree : List (List Decl) → List (List Decl) → Node → Bool
node_names_agree c d (Elem e) = element_names_agree c d e
node_names_agree c d (Chars t) = true
node_names_agree c d (Comment x) = true
