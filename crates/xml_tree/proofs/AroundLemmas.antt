-- The declarations in force inside an element: its own, or the ones around it.
use Rattle.std.proofs.Common.{◌≡◌, ℕ, List, [], ◌∷◌, ◌++◌, sym, ap, ◌∙◌, append-nil, append_assoc}
use Rattle.std.specs.Option.{option_or}
use Rattle.xml_names.specs.declared.names.Decl.{Decl}
use Rattle.xml_names.specs.Scopes.{declared_uri, scope_decls}
use Rattle.xml_names.proofs.ScopeLemmas.{declared-append}

joined_inside : (c : List (List Decl)) (ds : List Decl) → scope_decls (c ++ ds ∷ []) ≡ scope_decls c ++ ds
joined_inside [] ds = append-nil ds
joined_inside (xs ∷ c) ds = ap (λ (l : List Decl). xs ++ l) (joined_inside c ds) ∙ sym (append_assoc xs (scope_decls c) ds)

pub declared_inside : (c : List (List Decl)) (ds : List Decl) (p : List ℕ) → declared_uri (scope_decls (c ++ ds ∷ [])) p ≡ option_or (declared_uri ds p) (declared_uri (scope_decls c) p)
declared_inside c ds p = ap (λ (l : List Decl). declared_uri l p) (joined_inside c ds) ∙ declared-append (scope_decls c) ds p
