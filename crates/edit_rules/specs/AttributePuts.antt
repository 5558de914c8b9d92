-- The attribute that a PUT writes. RFC 4825, sections 8.2.3 and 8.2.4; Namespaces in XML 1.0,
-- section 6.2: the default namespace doesn't apply to attributes, so only a prefix gives one a
-- namespace. Which prefix a new attribute gets is this server's choice.
use Rattle.std.specs.Prelude.{◌≡◌, ◌≢◌, ℕ, Bool, ◌&&◌, not, List, [], Option, None, Some}
use Rattle.std.specs.Prelude.{option_map, find, IsTrue, Result, Err, if◌then◌else◌}
use Rattle.std.specs.Option.{option_map_or}
use Rattle.std.specs.Str.{bytes_eq}
use Rattle.xml_tree.specs.Tree.{Tree, at}
use Rattle.xml_names.specs.Characters.{is_name}
use Rattle.xml_names.specs.Scopes.{in_scope_bindings, xml_prefix, xml_uri, xmlns_prefix}
use Rattle.xml_tree.specs.TreeScopes.{scope_at}
use Rattle.xml_names.specs.declared.names.Name.{Name}
use Rattle.xml_names.specs.declared.names.Decl.{Decl}
use Rattle.xml_names.specs.declared.names.Attr.{Attr}
use Rattle.node_select.specs.Selection.{SelectsPath, is_attr_named}
use Rattle.node_select.specs.declared.selector.Step.{Step}
use Rattle.node_select.specs.declared.selector.End.{End}
use Rattle.node_select.specs.declared.selector.End.TheVariants as ends
use Rattle.edit_ops.specs.Changes.{edited}
use Rattle.edit_ops.specs.declared.change.Change.{Change}
use Rattle.edit_ops.specs.declared.change.Change.TheVariants.{SetAttr}
use Rattle.edit_rules.specs.declared.edit_refusal.EditRefusal.{EditRefusal}
use Rattle.edit_rules.specs.declared.edit_refusal.EditRefusal.TheVariants.{CannotInsert}
use Rattle.edit_rules.specs.EditContexts.{AttrPlace, PutContext}
use Rattle.edit_rules.specs.CheckedChanges.{IsCheckedChange, IsCheckedIfLawful}

-- ---- the name of the written attribute

-- a binding of the namespace to a non-empty prefix
abbrev pub is_binding : List ℕ → Decl → Bool
is_binding uri d = not (bytes_eq d.prefix []) && bytes_eq d.uri uri

-- the prefix of a new attribute: none if it has no namespace, `xml` for XML's own namespace, else
-- the first prefix that is bound to the namespace, in the order of `in_scope_bindings`, by code
-- point
abbrev pub new_prefix : List (List Decl) → List ℕ → Option (List ℕ)
new_prefix c uri =
    if bytes_eq uri [] then Some []
    else if bytes_eq uri xml_uri then Some xml_prefix
    else option_map (λ d. d.prefix) (find (is_binding uri) (in_scope_bindings c))

-- the name of a new attribute, if there is a prefix for it
abbrev pub new_name : List (List Decl) → List ℕ → List ℕ → Option Name
new_name c uri local =
    option_map (λ prefix. record { prefix = prefix; local = local }) (new_prefix c uri)

-- the name of the written attribute of this namespace and local name, among these attributes: an
-- existing one keeps its name
abbrev pub written_name : List (List Decl) → List ℕ → List ℕ → List Attr → Option Name
written_name c uri local attrs =
    option_map_or (λ attr. Some attr.name) (find (is_attr_named c uri local) attrs)
    (new_name c uri local)

-- ---- the plan

-- the steps select the element at the place's path, and its attribute of the place's namespace and
-- local name has the value
pub record FindsValue (steps : List Step) (place : AttrPlace) (t : Tree)
    (value : List ℕ) : Type 0 where
  pub selects : SelectsPath steps t place.path
  pub element : Tree
  pub there : at place.path t ≡ Some element
  pub has : option_map (λ a. a.value)
      (find (is_attr_named (scope_at place.path t) place.uri place.local) element.attrs)
      ≡ Some value

-- the attribute is written under its name, if there is one; `CannotInsert` where there is none,
-- or where the address wouldn't find the value afterwards
abbrev pub IsAttributeWrite : PutContext → AttrPlace → List ℕ → Option Name
    → Result Change EditRefusal
    → Type 0
IsAttributeWrite context place value (Some name) result =
    let change = SetAttr place.path name value in
    IsCheckedIfLawful CannotInsert
    (FindsValue context.steps place (edited context.document change) value)
    (IsCheckedChange context.usage context.document change) result
IsAttributeWrite context place value None result = result ≡ Err CannotInsert

-- the plan of a PUT of the attribute at this place
pub record IsValuePlan (context : PutContext) (place : AttrPlace) (value : List ℕ)
    (result : Result Change EditRefusal) : Type 0 where
  pub element : Tree
  pub there : at place.path context.document ≡ Some element
  pub plan : IsAttributeWrite context place value
      (written_name (scope_at place.path context.document) place.uri place.local element.attrs)
      result

-- the plan for the element at p by how the selector ends: only a selector that ends in an
-- attribute has a plan here
abbrev pub IsAttrPlan : PutContext → End → List ℕ → List ℕ → Result Change EditRefusal → Type 0
IsAttrPlan context (ends.Attribute uri local) p value result =
    IsValuePlan context (record { path = p; uri = uri; local = local }) value result
IsAttrPlan context _ p value result = ⊥

-- ---- what may be written

-- the local name is an NCName, and in no namespace it isn't `xmlns`, which would be a declaration
pub record IsWritable (uri local : List ℕ) : Type 0 where
  pub is_ncname : IsTrue (is_name local)
  pub is_attribute : uri ≡ [] → local ≢ xmlns_prefix
