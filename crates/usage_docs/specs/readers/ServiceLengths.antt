-- The printed length of bindings.
use Rattle.std.specs.Prelude.{◌≡◌, ℕ, min, List, [], ◌∷◌, filter, flat_map, is_some}
use Rattle.std.specs.Str.{bytes_eq}
use Rattle.xml_names.specs.Markup.{print_decl, byte_len}
use Rattle.xml_names.specs.Scopes.{in_scope_bindings, declared_uri}
use Rattle.xml_names.specs.declared.names.Decl.{Decl}
use Rattle.xml_names.specs.Limits.{u64_max}
use Rattle.usage_docs.specs.declared.service_lengths.Outer.{Outer}

-- the printed length of declarations
abbrev pub decls_len : List Decl → ℕ
decls_len ds = byte_len (flat_map print_decl ds)

-- the bindings whose prefixes these declarations redeclare
abbrev pub hidden_bindings : List Decl → List Decl → List Decl
hidden_bindings own bs = filter (λ b. is_some (declared_uri own b.prefix)) bs

-- the bindings of a prefix
abbrev pub bindings_of_prefix : List ℕ → List Decl → List Decl
bindings_of_prefix p bs = filter (λ b. bytes_eq p b.prefix) bs

-- the bindings of a root are stored with their printed length
pub record CountsBindings (outer : Outer) : Type 0 where
  pub bindings : outer.bindings.items ≡ in_scope_bindings (outer.decls.now ∷ [])
  pub counted : outer.len ≡ min (decls_len (in_scope_bindings (outer.decls.now ∷ []))) u64_max
