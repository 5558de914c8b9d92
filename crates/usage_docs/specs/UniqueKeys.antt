-- Keys are unique among siblings of one kind. RFC 4826, sections 3.4.5 and 4.4.5 (additional
-- constraints: what has to be unique is in the prose there; the schemas don't say it).
use Rattle.std.specs.Prelude.{◌≡◌, ℕ, ◌<◌, ◌⊎◌, List, [], ◌∷◌, Option, None, Some, option_map}
use Rattle.std.specs.Prelude.{option_and_then, slice_get}
use Rattle.xml_tree.specs.Tree.{Tree, child_elements_of}
use Rattle.xml_tree.specs.TreeScopes.{inside}
use Rattle.doc_names.specs.declared.usages.Usage.{Usage}
use Rattle.usage_docs.specs.declared.schema_table.ElementKind.{ElementKind}
use Rattle.usage_docs.specs.declared.schema_table.Key.{Key}
use Rattle.usage_docs.specs.declared.key_repeats.Clash.{Clash}
use Rattle.usage_docs.specs.SchemaTable.{Scope, kind_of, root_kind}
use Rattle.usage_docs.specs.KeyAttributes.{key_of, key_value}

-- what has to be unique among siblings: a kind, and the value of its key
pub record SiblingKey : Type 0 where
  pub kind : ElementKind
  pub value : List ℕ

abbrev pub sibling_key : ElementKind → List ℕ → SiblingKey
sibling_key kind value = record { kind = kind; value = value }

-- the kind and key of an element; one without a kind or without its key has none
unfoldable pub sibling_key_of : ElementKind → Scope → Tree → Option SiblingKey
sibling_key_of row c e =
    option_and_then (λ kind. option_map (sibling_key kind) (key_value kind e.attrs))
    (kind_of row (inside c e) e.name)

-- the kind and key of the i-th sibling
abbrev pub sibling_key_at : ElementKind → Scope → List Tree → ℕ → Option SiblingKey
sibling_key_at row c child_elements i =
    option_and_then (sibling_key_of row c) (slice_get child_elements i)

-- the i-th sibling has the kind and the key of an earlier one
pub record RepeatsKey (row : ElementKind) (c : Scope) (child_elements : List Tree) (i : ℕ)
    (key : Key) : Type 0 where
  pub shared : SiblingKey
  pub earlier : ℕ
  pub comes_first : earlier < i
  pub that : sibling_key_at row c child_elements earlier ≡ Some shared
  pub this : sibling_key_at row c child_elements i ≡ Some shared
  pub by_key : key_of shared.kind ≡ Some key

-- the element at a path below an element of this kind, where all elements on the path have kinds,
-- repeats a sibling's key
abbrev pub RepeatsKeyAt : ElementKind → Scope → List Tree → List ℕ → Key → Type 0
RepeatsKeyAt row c child_elements [] key = ⊥
RepeatsKeyAt row c child_elements (i ∷ []) key = RepeatsKey row c child_elements i key
RepeatsKeyAt row c child_elements (i ∷ n ∷ p) key =
    (child_element : Tree)
    × ((kind : ElementKind)
    × ((slice_get child_elements i ≡ Some child_element)
    × (kind_of row (inside c child_element) child_element.name ≡ Some kind)
    × RepeatsKeyAt kind (inside c child_element) (child_elements_of child_element) (n ∷ p) key))

-- the element at a path of a document repeats a sibling's key
abbrev pub ClashesAt : Usage → Tree → List ℕ → Key → Type 0
ClashesAt u t p key = RepeatsKeyAt (root_kind u) (t.decls ∷ []) (child_elements_of t) p key

-- document order: an element comes before its descendants, and these before the descendants of a
-- later sibling
abbrev pub IsNotAfter : List ℕ → List ℕ → Type 0
IsNotAfter [] q = Unit {0}
IsNotAfter (n ∷ p) [] = ⊥
IsNotAfter (n ∷ p) (m ∷ q) = (n < m) ⊎ ((n ≡ m) × IsNotAfter p q)

-- no two children of one element have the same kind and equal keys
abbrev pub HasUniqueKeys : Usage → Tree → Type 0
HasUniqueKeys u t = (p : List ℕ) (key : Key) → ClashesAt u t p key → ⊥

-- the first element in document order that repeats a sibling's key, if there is one
abbrev pub IsFirstClash : Usage → Tree → Option Clash → Type 0
IsFirstClash u t None = HasUniqueKeys u t
IsFirstClash u t (Some clash) =
    ClashesAt u t clash.path clash.key
    × ((p : List ℕ) (key : Key) → ClashesAt u t p key → IsNotAfter clash.path p)
