-- What is checked beside a change: the new element and its siblings.
use Rattle.std.specs.Prelude.{◌≡◌, ◌<◌, ◌≤◌, ◌⊎◌, ℕ, suc, List, [], ◌∷◌, Some}
use Rattle.xml_tree.specs.Tree.{Tree, child_elements_of}
use Rattle.xml_tree.specs.TreeScopes.{inside}
use Rattle.usage_docs.specs.declared.schema_table.ElementKind.{ElementKind}
use Rattle.usage_docs.specs.declared.schema_table.Key.{Key}
use Rattle.usage_docs.specs.SchemaTable.{Scope}
use Rattle.usage_docs.specs.KeyAttributes.{key_of}
use Rattle.usage_docs.specs.UniqueKeys.{SiblingKey, sibling_key_of, sibling_key_at, RepeatsKeyAt}
use Rattle.usage_docs.specs.ElementKinds.{kind_of_child}

-- the siblings of a new element, with the element kind of their parent and the scope inside it
pub record Siblings : Type 0 where
  pub kind : ElementKind
  pub scope : Scope
  pub elements : List Tree

-- the i-th sibling has the kind and the key of the new element
pub record IsDuplicate (siblings : Siblings) (new : Tree) (i : ℕ) (key : Key) : Type 0 where
  pub shared : SiblingKey
  pub that : sibling_key_at siblings.kind siblings.scope siblings.elements i ≡ Some shared
  pub of_new : sibling_key_of siblings.kind siblings.scope new ≡ Some shared
  pub by_key : key_of shared.kind ≡ Some key

-- an element in the new one, at this path from it, repeats a sibling's key
abbrev pub ClashesInside : ElementKind → Scope → Tree → List ℕ → Key → Type 0
ClashesInside row c new p key =
    (kind : ElementKind)
    × ((kind_of_child row c new ≡ Some kind)
    × RepeatsKeyAt kind (inside c new) (child_elements_of new) p key)

-- no two children of one element in the new one have the same kind and equal keys
abbrev pub HasUniqueKeysInside : ElementKind → Scope → Tree → Type 0
HasUniqueKeysInside row c new = (p : List ℕ) (key : Key) → ClashesInside row c new p key → ⊥

-- no sibling has the kind and the key of the new one
abbrev pub HasNoDuplicate : Siblings → Tree → Type 0
HasNoDuplicate siblings new = (i : ℕ) (key : Key) → IsDuplicate siblings new i key → ⊥

-- where clashes come from once the new element is in the gap: it repeats the key of a sibling
-- before it; or an element in it repeats a sibling's key; or a sibling after it, whose number is
-- then one greater, repeats its key
abbrev pub ClashesBeside : Siblings → Tree → ℕ → List ℕ → Key → Type 0
ClashesBeside siblings new gap r key =
    ((r ≡ gap ∷ []) × ((i : ℕ) × ((i < gap) × IsDuplicate siblings new i key)))
    ⊎ ((p : List ℕ) × ((r ≡ gap ∷ p) × ClashesInside siblings.kind siblings.scope new p key))
    ⊎ ((i : ℕ) × ((r ≡ suc i ∷ []) × ((gap ≤ i) × IsDuplicate siblings new i key)))
