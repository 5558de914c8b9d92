-- What the names in selectors mean. RFC 4825, sections 6.3 and 6.4; Namespaces in XML 1.0,
-- sections 3 and 6.2.
use Rattle.std.specs.Prelude.{ℕ, Bool, not, ◌&&◌, List, [], ◌∷◌, Option, None, is_none, unwrap_or}
use Rattle.std.specs.Prelude.{if◌then◌else◌}
use Rattle.std.specs.Str.{bytes_eq}
use Rattle.xml_names.specs.Scopes.{bound_uri, xmlns_prefix}
use Rattle.xml_names.specs.ExpandedNames.{ExpandedName}
use Rattle.xml_names.specs.declared.names.Decl.{Decl}
use Rattle.xml_names.specs.declared.names.Name.{Name}

-- the URI that a prefix is bound to, where the bindings are read as the declarations of one
-- element; `xmlns` is never bound
abbrev pub prefix_uri : List Decl → List ℕ → Option (List ℕ)
prefix_uri bindings p = if bytes_eq p xmlns_prefix then None else bound_uri (bindings ∷ []) p

-- the URI of a name, which is empty where the name is in no namespace
abbrev pub uri_or_empty : ExpandedName → List ℕ
uri_or_empty name = unwrap_or name.uri []

-- whether a name has this URI and this local name
abbrev pub has_expanded_name : List ℕ → List ℕ → ExpandedName → Bool
has_expanded_name uri local name = bytes_eq name.local local && bytes_eq (uri_or_empty name) uri

-- ---- names as they are written

-- whether a name has a prefix that isn't bound
abbrev pub has_unbound_prefix : List Decl → Name → Bool
has_unbound_prefix bindings name =
    not (bytes_eq name.prefix []) && is_none (prefix_uri bindings name.prefix)

-- the URI of a name, where a name without prefix has this one: an element's name the default
-- namespace, an attribute's name none
abbrev pub name_uri : List Decl → List ℕ → Name → List ℕ
name_uri bindings none name =
    if bytes_eq name.prefix [] then none else unwrap_or (prefix_uri bindings name.prefix) []

abbrev pub attr_uri : List Decl → Name → List ℕ
attr_uri bindings = name_uri bindings []
