-- Declarations collected in a map, by the bytes of their prefixes.
use Rattle.std.specs.Prelude.{◌≡◌, ◌⊎◌, ℕ, List, [], ◌∷◌, filter, map, encode_utf8_all}
use Rattle.std.specs.Borrow.{Bor}
use Rattle.std.specs.Cmp.Lexicographic.{slice_cmp}
use Rattle.std.specs.List.{AllByRecursion}
use Rattle.std.specs.Ordering.{match_ordering, nat_cmp}
use Rattle.xml_names.specs.Scopes.{binds_prefix, scope_decls}
use Rattle.xml_names.specs.declared.names.Decl.{Decl}

-- one more declaration, in a list ordered by prefix, by code point: it replaces the declaration
-- of its prefix
abbrev pub with_sorted_decl : Decl → List Decl → List Decl
with_sorted_decl d [] = d ∷ []
with_sorted_decl d (x ∷ ds) =
    match_ordering (slice_cmp nat_cmp d.prefix x.prefix) (d ∷ x ∷ ds) (d ∷ ds)
    (x ∷ with_sorted_decl d ds)

-- the nearest declaration of each prefix, in the order of the prefixes, with the given list as a
-- start
abbrev pub with_sorted_decls : List Decl → List Decl → List Decl
with_sorted_decls acc [] = acc
with_sorted_decls acc (d ∷ ds) = with_sorted_decls (with_sorted_decl d acc) ds

-- the declarations of a scope that bind: they are its `in_scope_bindings`
abbrev pub sorted_bindings : List (List Decl) → List Decl
sorted_bindings c = filter binds_prefix (with_sorted_decls [] (scope_decls c))

-- the declarations, in the order of the entries
abbrev pub map_decls : List (Bor (List ℕ) × Bor Decl) → List Decl
map_decls es = map (λ e. e.1.now) es

-- each declaration is at the key of its prefix
abbrev pub AreKeyedByPrefix : List (Bor (List ℕ) × Bor Decl) → Type 0
AreKeyedByPrefix es = AllByRecursion (λ e. e.0.now ≡ encode_utf8_all e.1.now.prefix) es

-- an index of declarations, if there is one: the last declaration of each prefix, in the order of
-- the prefixes
abbrev pub IsPrefixIndex : List Decl → List Decl → Type 0
IsPrefixIndex index ds = (index ≡ []) ⊎ (index ≡ with_sorted_decls [] ds)
