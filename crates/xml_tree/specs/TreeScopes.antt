-- The scopes of a tree: what is declared around and at its elements.
use Rattle.std.specs.Prelude.{ℕ, List, [], ◌∷◌, ◌++◌, option_map, unwrap_or, slice_get}
use Rattle.xml_tree.specs.Tree.{Tree, child_elements_of}
use Rattle.xml_tree.specs.Edits.{parent_path}
use Rattle.xml_names.specs.declared.names.Decl.{Decl}

-- ---- the scopes of a tree

-- the declarations of all elements on a path, the last included; where the path leads nowhere,
-- the declarations of the elements that exist
abbrev pub scope_at : List ℕ → Tree → List (List Decl)
scope_at [] e = e.decls ∷ []
scope_at (n ∷ p) e =
    e.decls ∷ unwrap_or (option_map (scope_at p) (slice_get (child_elements_of e) n)) []

-- the declarations of all elements below the first one on a path
abbrev pub scope_below : List ℕ → Tree → List (List Decl)
scope_below [] e = []
scope_below (n ∷ p) e = unwrap_or (option_map (scope_at p) (slice_get (child_elements_of e) n)) []

-- the declarations of all elements around the one at the path
abbrev pub scope_around : List ℕ → Tree → List (List Decl)
scope_around [] e = []
scope_around (n ∷ p) e = scope_at (parent_path (n ∷ p)) e

-- the scope inside an element, by the scope around it
abbrev pub inside : List (List Decl) → Tree → List (List Decl)
inside c e = c ++ e.decls ∷ []
