-- An operation by its stages, each a part of what `patch_rules` specifies.
use Rattle.std.specs.Prelude.{ℕ, suc, Bool, true, not, ◌&&◌, ◌||◌, List, length, remove}
use Rattle.std.specs.Prelude.{Result}
use Rattle.xml_names.specs.Attributes.{with_value_at}
use Rattle.xml_tree.specs.Edits.{change_at, parent_path}
use Rattle.xml_tree.specs.Nodes.{exchange_nodes, nodes_of}
use Rattle.xml_tree.specs.TreeScopes.{scope_at}
use Rattle.xml_tree.specs.Tree.{Content, Tree}
use Rattle.xml_names.specs.declared.names.Decl.{Decl}
use Rattle.patch_rules.specs.PatchOperations.{OperationError}
use Rattle.patch_rules.specs.PatchOperations.{WrongNodes, Position, Append, Prepend}
use Rattle.patch_rules.specs.PatchOperations.{Before, After, require_some, has_only_comments}
use Rattle.patch_rules.specs.PatchOperations.{is_space_at, check_tree, names_agree, nodes_at}
use Rattle.patch_rules.specs.PatchOperations.{index_in_parent, has_space_before, require}
use Rattle.patch_rules.specs.PatchOperations.{content_value}
use Rattle.patch_rules.specs.PatchOperations.{with_attrs}

-- where content goes: the element among whose nodes it comes, and the number of the node after it
abbrev pub insertion_path : Position → List ℕ → List ℕ
insertion_path Append p = p
insertion_path Prepend p = p
insertion_path Before p = parent_path p
insertion_path After p = parent_path p

abbrev pub insertion_place : Position → List ℕ → Tree → ℕ
insertion_place Append p t = length (nodes_at p t)
insertion_place Prepend p t = 0
insertion_place Before p t = index_in_parent p t
insertion_place After p t = suc (index_in_parent p t)

-- ---- the result of each patch action, by its location

-- content put before the node of a number
abbrev pub insert_result : List (List Decl) → List ℕ → ℕ → Content → Tree
    → Result Tree OperationError
insert_result c p i content t =
    check_tree (change_at p (exchange_nodes i i (nodes_of content)) t)
    (names_agree c (scope_at p t) content)

-- the value of the attribute of a number
abbrev pub set_attr_result : List ℕ → ℕ → Content → Tree → Result Tree OperationError
set_attr_result p i content t =
    require_some (content_value content) WrongNodes (λ v.
    check_tree (change_at p (with_attrs (with_value_at i v)) t) true)

-- the attribute of a number, taken out
abbrev pub drop_attr_result : List ℕ → ℕ → Content → Tree → Result Tree OperationError
drop_attr_result p i content t =
    require (has_only_comments content) WrongNodes
    (check_tree (change_at p (with_attrs (λ ats. remove ats i)) t) true)

-- the white space beside the node of a number, if it is asked for
abbrev pub has_space_beside : Bool → Bool → List ℕ → ℕ → Tree → Bool
has_space_beside before after p i t =
    (not before || has_space_before i (nodes_at p t))
    && (not after || is_space_at (suc i) (nodes_at p t))
