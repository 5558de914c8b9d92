-- Clashes at an element after its earlier siblings, by their marks, and below it.
use Rattle.std.specs.Prelude.{◌≡◌, ℕ, ◌⊎◌, ◌↔◌, List, [], ◌∷◌, Option, Some, filter_map}
use Rattle.xml_tree.specs.Tree.{Tree, child_elements_of}
use Rattle.xml_names.specs.declared.names.Attr.{Attr}
use Rattle.xml_tree.specs.TreeScopes.{inside}
use Rattle.usage_docs.specs.declared.schema_table.ElementKind.{ElementKind}
use Rattle.usage_docs.specs.declared.schema_table.Key.{Key}
use Rattle.usage_docs.specs.SchemaTable.{Scope, kind_of}
use Rattle.usage_docs.specs.KeyAttributes.{key_of, value_of}
use Rattle.usage_docs.specs.UniqueKeys.{SiblingKey, sibling_key, sibling_key_of, RepeatsKeyAt}

-- the marks of some siblings, without the siblings that have none
abbrev pub marks_of : ElementKind → Scope → List Tree → List SiblingKey
marks_of row c es = filter_map (sibling_key_of row c) es

-- one of these marks is this one
abbrev pub IsAmong : List SiblingKey → SiblingKey → Type 0
IsAmong [] m = ⊥
IsAmong (n ∷ ns) m = (n ≡ m) ⊎ IsAmong ns m

-- an element after siblings with these marks has one of them, or a descendant of it repeats a
-- sibling's key at the path
abbrev pub RepeatsHere : ElementKind → Scope → List SiblingKey → Tree → List ℕ → Key → Type 0
RepeatsHere row c ms e [] key = (m : SiblingKey) × ((sibling_key_of row c e ≡ Some m) × IsAmong ms m × (key_of m.kind ≡ Some key))
RepeatsHere row c ms e (n ∷ p) key = (kind : ElementKind) × ((kind_of row (inside c e) e.name ≡ Some kind) × RepeatsKeyAt kind (inside c e) (child_elements_of e) (n ∷ p) key)

-- the key of an element of this kind, if the element's mark is one of these
abbrev pub RepeatedKey : List SiblingKey → ElementKind → List Attr → Option Key → Type 0
RepeatedKey ms kind ats result = (key : Key) → (result ≡ Some key) ↔ ((value : List ℕ) × ((key_of kind ≡ Some key) × (value_of key ats ≡ Some value) × IsAmong ms (sibling_key kind value)))
