-- Linked scopes.
use Rattle.std.specs.Prelude.{List, [], ◌∷◌, ◌++◌}
use Rattle.xml_names.specs.declared.names.Decl.{Decl}
use Rattle.xml_tree.specs.declared.linked_scope.ScopeLink.{ScopeLink}
use Rattle.xml_tree.specs.declared.linked_scope.ScopeLink.TheVariants.{Nothing, Outermost, Within}

-- the lists of the scope around, then the declarations of an element
abbrev pub decl_lists : ScopeLink → List (List Decl)
decl_lists Nothing = []
decl_lists (Outermost scope) = scope.now
decl_lists (Within outer declared) = outer.now ++ declared.now ∷ []
