-- The attributes without a namespace (RFC 4826, sections 3.2 and 4.2), which are also the keys of
-- elements (sections 3.4.5 and 4.4.5).
use Rattle.std.specs.Prelude.{ℕ, Bool, true, false, List, [], Option, None, Some, codes}
use Rattle.std.specs.Prelude.{if◌then◌else◌, ◌&&◌, not, find, is_some, option_map, option_and_then}
use Rattle.std.specs.Str.{bytes_eq}
use Rattle.std.specs.List.{list_all}
use Rattle.std.specs.Option.{option_map_or}
use Rattle.xml_names.specs.declared.names.Attr.{Attr}
use Rattle.usage_docs.specs.declared.schema_table.ElementKind.{ElementKind}
use Rattle.usage_docs.specs.declared.schema_table.ElementKind.TheVariants.{EntryList, Entry}
use Rattle.usage_docs.specs.declared.schema_table.ElementKind.TheVariants.{EntryRef, External}
use Rattle.usage_docs.specs.declared.schema_table.ElementKind.TheVariants.{Service}
use Rattle.usage_docs.specs.declared.schema_table.Attribute.{Attribute}
use Rattle.usage_docs.specs.declared.schema_table.Attribute.TheVariants.{Nothing, May, Must}
use Rattle.usage_docs.specs.declared.schema_table.Key.{Key}
use Rattle.usage_docs.specs.declared.schema_table.Key.TheVariants.{Name, Uri, Ref, Anchor}
use Rattle.usage_docs.specs.SchemaTable.{Scope, lists_namespace, services_namespace}
use Rattle.usage_docs.specs.SchemaTable.{element_namespace}

-- the local name of the attribute
unfoldable pub attribute_name : Key → List ℕ
attribute_name Name = codes "name"
attribute_name Uri = codes "uri"
attribute_name Ref = codes "ref"
attribute_name Anchor = codes "anchor"

-- the attributes without a namespace that an element of a kind may have: none; or one, which is
-- optional (`use="optional"`) or required (`use="required"`)
unfoldable pub attribute_of : ElementKind → Attribute
attribute_of EntryList = May Name
attribute_of Entry = Must Uri
attribute_of EntryRef = Must Ref
attribute_of External = Must Anchor
attribute_of Service = Must Uri
attribute_of _ = Nothing

abbrev pub key_of_attribute : Attribute → Option Key
key_of_attribute Nothing = None
key_of_attribute (May key) = Some key
key_of_attribute (Must key) = Some key

-- it is the key of the element
unfoldable pub key_of : ElementKind → Option Key
key_of kind = key_of_attribute (attribute_of kind)

-- an unprefixed attribute with this name
abbrev pub is_key_attribute : Key → Attr → Bool
is_key_attribute key a = bytes_eq a.name.prefix [] && bytes_eq a.name.local (attribute_name key)

-- the value of a key, where it is written
unfoldable pub value_of : Key → List Attr → Option (List ℕ)
value_of key ats = option_map (λ a. a.value) (find (is_key_attribute key) ats)

-- the value of an element's own key
unfoldable pub key_value : ElementKind → List Attr → Option (List ℕ)
key_value kind ats = option_and_then (λ key. value_of key ats) (key_of kind)

-- an unprefixed attribute is the kind's own; a prefixed one has a namespace of neither document
-- type
unfoldable pub is_attr_allowed : ElementKind → Scope → Attr → Bool
is_attr_allowed row c a =
    if bytes_eq a.name.prefix []
    then option_map_or (λ key. bytes_eq a.name.local (attribute_name key)) (key_of row) false
    else (not (bytes_eq (element_namespace c a.name) lists_namespace)
    && not (bytes_eq (element_namespace c a.name) services_namespace))

-- a required attribute is present
abbrev pub has_required_attribute : Attribute → List Attr → Bool
has_required_attribute Nothing ats = true
has_required_attribute (May key) ats = true
has_required_attribute (Must key) ats = is_some (value_of key ats)

-- the attributes of an element of this kind are allowed, in the scope that ends with its own
-- declarations
unfoldable pub are_attrs_allowed : ElementKind → Scope → List Attr → Bool
are_attrs_allowed row c ats =
    list_all (is_attr_allowed row c) ats && has_required_attribute (attribute_of row) ats
