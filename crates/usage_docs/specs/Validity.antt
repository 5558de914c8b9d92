-- Which documents are valid: every element of a kind has the attributes, the texts and the
-- children that its kind allows. RFC 4826, sections 3.2 and 4.2 (the schemas). The content of
-- foreign elements isn't checked.
use Rattle.std.specs.Prelude.{ℕ, Bool, true, false, List, [], ◌∷◌, ◌++◌, map, ◌||◌, IsTrue}
use Rattle.std.specs.List.{list_all}
use Rattle.std.specs.Option.{ForSome}
use Rattle.xml_names.specs.Characters.{is_space}
use Rattle.xml_tree.specs.Tree.{Content, last, more, comment_node, Tree, child_elements}
use Rattle.xml_names.specs.declared.names.Attr.{Attr}
use Rattle.doc_names.specs.declared.usages.Usage.{Usage}
use Rattle.usage_docs.specs.declared.schema_table.ElementKind.{ElementKind}
use Rattle.usage_docs.specs.SchemaTable.{Scope, Child, Model, text_alone, sequence}
use Rattle.usage_docs.specs.SchemaTable.{content_model_of, items_in, kind_of, child_class_of}
use Rattle.usage_docs.specs.SchemaTable.{root_kind, is_root, MatchesModel}
use Rattle.usage_docs.specs.KeyAttributes.{are_attrs_allowed}
use Rattle.usage_docs.specs.ContentTexts.{content_text}

-- the model is text alone
abbrev pub is_text_model : Model → Bool
is_text_model text_alone = true
is_text_model (sequence items) = false

-- a text is allowed in an element of this kind: any text where the model is text, else white
-- space alone
unfoldable pub is_text_allowed : ElementKind → List ℕ → Bool
is_text_allowed row t = is_text_model (content_model_of row) || list_all is_space t

-- the children of an element of this kind, in order, as the content model sees them, in the scope
-- inside it
abbrev pub children_of : ElementKind → Scope → Content → List Child
children_of row c content =
    map (λ e. child_class_of row (c ++ e.decls ∷ []) e.name) (child_elements content)

-- an element of this kind has the attributes, the text and the children of the kind, in the scope
-- that ends with its own declarations
pub record MatchesKind (kind : ElementKind) (c : Scope) (ats : List Attr)
    (content : Content) : Type 0 where
  pub attributes : IsTrue (are_attrs_allowed kind c ats)
  pub text : IsTrue (is_text_allowed kind (content_text content))
  pub children : MatchesModel (items_in (content_model_of kind)) (children_of kind c content)

-- each element of a kind in the content of an element of this kind has what its kind allows,
-- however deep
abbrev pub AllMatchKinds : ElementKind → Scope → Content → Type 0
AllMatchKinds row c (last t) = Unit {0}
AllMatchKinds row c (comment_node t inside rest) = AllMatchKinds row c rest
AllMatchKinds row c (more t n ds ats k rest) =
    ForSome (kind_of row (c ++ ds ∷ []) n) (λ kind.
    MatchesKind kind (c ++ ds ∷ []) ats k × AllMatchKinds kind (c ++ ds ∷ []) k)
    × AllMatchKinds row c rest

-- an element of some kind is valid by itself, in the scope that ends with its own declarations
abbrev pub IsValidOfKind : ElementKind → Scope → Tree → Type 0
IsValidOfKind kind c e = MatchesKind kind c e.attrs e.content × AllMatchKinds kind c e.content

-- a child is valid by itself: it has no kind, or is valid by its kind
abbrev pub IsValidChild : ElementKind → Scope → Tree → Type 0
IsValidChild row c e =
    ForSome (kind_of row (c ++ e.decls ∷ []) e.name)
    (λ kind. IsValidOfKind kind (c ++ e.decls ∷ []) e)

-- a document of the usage
pub record IsValidDocument (u : Usage) (t : Tree) : Type 0 where
  pub root : IsTrue (is_root u (t.decls ∷ []) t.name)
  pub valid : IsValidOfKind (root_kind u) (t.decls ∷ []) t
