-- No scope in a proper tree binds `xmlns`.
use Rattle.std.proofs.Common.{◌≡◌, ℕ, List, [], ◌∷◌, ◌++◌, Option, None, Some, refl, subst, append_assoc, option_map, unwrap_or}
use Rattle.std.specs.List.{slice_get}
use Rattle.xml_tree.specs.Proper.{IsProperPart, IsProperTree}
use Rattle.xml_names.specs.Scopes.{bound_uri, xmlns_prefix}
use Rattle.xml_tree.specs.TreeScopes.{scope_at}
use Rattle.xml_tree.specs.Tree.{Tree, child_elements_of}
use Rattle.xml_names.specs.declared.names.Decl.{Decl}
use Rattle.xml_tree.proofs.EverywhereLaws.{Everywhere-child_element}
use Rattle.tree_text.proofs.PrintedTags.{still_unbound}

module _ (path : List ℕ) (n : ℕ) (scope : List (List Decl)) (root : Tree) (unbound : bound_uri (scope ++ root.decls ∷ []) xmlns_prefix ≡ None) (proper : IsProperTree scope root)
    (below : (child_element : Tree) → IsProperTree (scope ++ root.decls ∷ []) child_element → bound_uri ((scope ++ root.decls ∷ []) ++ scope_at path child_element) xmlns_prefix ≡ None) where
  by_kid : (o : Option Tree) → slice_get (child_elements_of root) n ≡ o → bound_uri (scope ++ root.decls ∷ unwrap_or (option_map (scope_at path) o) []) xmlns_prefix ≡ None
  by_kid None e = unbound
  by_kid (Some child_element) e = subst (λ (z : List (List Decl)). bound_uri z xmlns_prefix ≡ None) (append_assoc scope (root.decls ∷ []) (scope_at path child_element)) (below child_element (Everywhere-child_element IsProperPart (scope ++ root.decls ∷ []) n root.content child_element e proper.1))

pub never_bound : (path : List ℕ) (scope : List (List Decl)) (root : Tree) → bound_uri scope xmlns_prefix ≡ None → IsProperTree scope root → bound_uri (scope ++ scope_at path root) xmlns_prefix ≡ None
never_bound [] scope root u h = still_unbound scope root.decls u h.0.declarations
never_bound (n ∷ path) scope root u h =
    let unbound = still_unbound scope root.decls u h.0.declarations in
    by_kid path n scope root unbound h (λ child_element k. never_bound path (scope ++ root.decls ∷ []) child_element unbound k) (slice_get (child_elements_of root) n) refl
