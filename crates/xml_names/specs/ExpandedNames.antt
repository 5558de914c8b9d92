-- Expanded names: what names mean in a scope. Namespaces in XML 1.0, sections 2.1 and 6.2.
use Rattle.std.specs.Prelude.{ℕ, Bool, true, false, ◌&&◌, List, [], Option, None, Some}
use Rattle.std.specs.Prelude.{if◌then◌else◌}
use Rattle.std.specs.Str.{bytes_eq}
use Rattle.xml_names.specs.Scopes.{bound_uri}
use Rattle.xml_names.specs.declared.names.Name.{Name}
use Rattle.xml_names.specs.declared.names.Decl.{Decl}

-- the name with this prefix and this local part
abbrev pub name_from_parts : List ℕ → List ℕ → Name
name_from_parts prefix local = record { prefix = prefix; local = local }

-- a namespace name, or none, and a local name
pub record ExpandedName : Type 0 where
  pub uri : Option (List ℕ)
  pub local : List ℕ

-- the name of an element; without a prefix it has the default namespace
abbrev pub element_name : List (List Decl) → Name → ExpandedName
element_name c n = record { uri = bound_uri c n.prefix; local = n.local }

-- the name of an attribute; without a prefix it has no namespace
abbrev pub attr_name : List (List Decl) → Name → ExpandedName
attr_name c n =
    record { uri = if bytes_eq n.prefix [] then None else bound_uri c n.prefix; local = n.local }

-- whether two namespaces are equal
abbrev pub same_uri : Option (List ℕ) → Option (List ℕ) → Bool
same_uri None None = true
same_uri None (Some v) = false
same_uri (Some u) None = false
same_uri (Some u) (Some v) = bytes_eq u v

-- whether two expanded names are equal
abbrev pub same_expanded : ExpandedName → ExpandedName → Bool
same_expanded a b = same_uri a.uri b.uri && bytes_eq a.local b.local
