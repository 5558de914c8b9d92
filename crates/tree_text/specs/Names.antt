-- Names in start tags: which of them are declarations, and which are wrong in the scope of the
-- tag. Namespaces in XML 1.0, sections 3 to 6.
use Rattle.std.specs.Prelude.{◌≡◌, ◌⊎◌, ℕ, suc, ◌+◌, Bool, true, ◌&&◌, ◌||◌, not, List, [], ◌∷◌}
use Rattle.std.specs.Prelude.{◌++◌, length, if◌then◌else◌, is_some}
use Rattle.std.specs.Str.{bytes_eq}
use Rattle.std.specs.List.{list_any}
use Rattle.xml_tree.specs.Tree.{Content, Tree, tree_of}
use Rattle.xml_names.specs.Scopes.{bound_uri, xmlns_prefix}
use Rattle.xml_names.specs.ExpandedNames.{attr_name, same_expanded}
use Rattle.xml_tree.specs.Proper.{is_allowed_decl}
use Rattle.xml_names.specs.declared.names.Name.{Name}
use Rattle.xml_names.specs.declared.names.Decl.{Decl}
use Rattle.xml_names.specs.declared.names.Attr.{Attr}
use Rattle.xml_tokens.specs.declared.fault_kind.FaultKind.{FaultKind}
use Rattle.xml_tokens.specs.declared.fault_kind.FaultKind.TheVariants.{Unbound, Repeated}
use Rattle.tree_text.specs.declared.raw_attribute.RawAttribute.{RawAttribute}
use Rattle.xml_tokens.specs.Values.{qname_text}
use Rattle.tree_text.specs.ContentPieces.{StartTag}

-- ---- declarations and attributes

-- an attribute named `xmlns`, or with the prefix `xmlns`, is a declaration
abbrev pub is_xmlns_attr_name : Name → Bool
is_xmlns_attr_name n =
    (bytes_eq n.prefix [] && bytes_eq n.local xmlns_prefix) || bytes_eq n.prefix xmlns_prefix

-- the declaration that a raw attribute is: `xmlns` declares the default namespace, `xmlns:p` the
-- prefix `p`
abbrev pub raw_attribute_decl : RawAttribute → Decl
raw_attribute_decl s =
    record { prefix = if bytes_eq s.name.prefix [] then [] else s.name.local; uri = s.value }

abbrev pub raw_attribute_attr : RawAttribute → Attr
raw_attribute_attr s = record { name = s.name; value = s.value }

-- the declarations of a tag, and its attributes, each in order
abbrev pub decls_of : List RawAttribute → List Decl
decls_of [] = []
decls_of (s ∷ ss) =
    if is_xmlns_attr_name s.name then (raw_attribute_decl s ∷ decls_of ss) else decls_of ss

abbrev pub attrs_of : List RawAttribute → List Attr
attrs_of [] = []
attrs_of (s ∷ ss) =
    if is_xmlns_attr_name s.name then attrs_of ss else (raw_attribute_attr s ∷ attrs_of ss)

-- the scope inside a tag
abbrev pub scope_inside_tag : List (List Decl) → StartTag → List (List Decl)
scope_inside_tag scope t = scope ++ decls_of t.raw_attribute ∷ []

-- the element of a start tag and its content
abbrev pub element_of : StartTag × Content → Tree
element_of x = tree_of x.0.name (decls_of x.0.raw_attribute) (attrs_of x.0.raw_attribute) x.1

-- ---- what is wrong with a name, in the scope inside its tag

-- the name has a prefix that isn't bound
abbrev pub is_prefix_unbound : List (List Decl) → Name → Bool
is_prefix_unbound here n = not (bytes_eq n.prefix []) && not (is_some (bound_uri here n.prefix))

-- a declaration that isn't allowed, or an attribute with an unbound prefix
abbrev pub is_misnamed : List (List Decl) → RawAttribute → Bool
is_misnamed here s =
    if is_xmlns_attr_name s.name then not (is_allowed_decl (raw_attribute_decl s))
    else is_prefix_unbound here s.name

-- two declarations of one prefix, or two attributes of equal expanded names
abbrev pub repeats_name : List (List Decl) → RawAttribute → RawAttribute → Bool
repeats_name here s e =
    if is_xmlns_attr_name s.name
    then (is_xmlns_attr_name e.name
    && bytes_eq (raw_attribute_decl e).prefix (raw_attribute_decl s).prefix)
    else (not (is_xmlns_attr_name e.name)
    && same_expanded (attr_name here e.name) (attr_name here s.name))

-- an earlier raw attribute of the tag declares the same prefix or has the same expanded name
abbrev pub is_repeated : List (List Decl) → List RawAttribute → RawAttribute → Bool
is_repeated here earlier s = list_any (repeats_name here s) earlier

-- a raw attribute of the tag is wrong in this way, after these
abbrev pub IsWrongAttribute : List (List Decl) → List RawAttribute → RawAttribute → FaultKind
    → Type 0
IsWrongAttribute here earlier s Unbound = is_misnamed here s ≡ true
IsWrongAttribute here earlier s Repeated = is_repeated here earlier s ≡ true
IsWrongAttribute here earlier s _ = ⊥

-- ---- the place of a wrong name in the tag

-- how many characters these raw attributes take
abbrev pub attributes_size : List RawAttribute → ℕ
attributes_size [] = 0
attributes_size (s ∷ ss) = s.gap + s.size + attributes_size ss

-- how many characters of a tag come before its attributes: `<` and the name
abbrev pub tag_front_size : StartTag → ℕ
tag_front_size t = suc (length (qname_text t.name))

-- the element's own name is wrong; its place is a number of characters before the end of the tag
pub record IsWrongName (scope : List (List Decl)) (t : StartTag) (kind : FaultKind)
    (back : ℕ) : Type 0 where
  pub wrong : is_prefix_unbound (scope_inside_tag scope t) t.name ≡ true
  pub kind_is : kind ≡ Unbound
  pub place : back + 1 ≡ t.size

-- an attribute or declaration of the tag is wrong; the place of its name is a number of
-- characters before the end of the tag
pub record HasWrongAttribute (scope : List (List Decl)) (t : StartTag) (kind : FaultKind)
    (back : ℕ) : Type 0 where
  pub earlier : List RawAttribute
  pub raw_attribute : RawAttribute
  pub later : List RawAttribute
  pub among : t.raw_attribute ≡ earlier ++ raw_attribute ∷ later
  pub wrong : IsWrongAttribute (scope_inside_tag scope t) earlier raw_attribute kind
  pub place : back + (tag_front_size t + attributes_size earlier + raw_attribute.gap) ≡ t.size

-- A whole tag marks each wrong name in it with what is wrong, at the name.
abbrev pub IsTagFault : List (List Decl) → StartTag → FaultKind → ℕ → Type 0
IsTagFault scope t kind back = IsWrongName scope t kind back ⊎ HasWrongAttribute scope t kind back
