-- Changes that write a key, and changes that leave what addresses by keys select. RFC 4826,
-- sections 3.4.5 and 4.4.5, on the attributes that distinguish an element from its siblings.
use Rattle.std.specs.Prelude.{◌≡◌, ℕ, List, [], IsSome, Some}
use Rattle.xml_tree.specs.Tree.{Tree}
use Rattle.xml_names.specs.declared.names.Name.{Name}
use Rattle.doc_names.specs.declared.usages.Usage.{Usage}
use Rattle.usage_docs.specs.declared.schema_table.ElementKind.{ElementKind}
use Rattle.usage_docs.specs.declared.schema_table.Key.{Key}
use Rattle.usage_docs.specs.KeyAttributes.{key_of, attribute_name}
use Rattle.usage_docs.specs.ElementKinds.{kind_at}
use Rattle.node_select.specs.Selection.{SelectsPath}
use Rattle.node_select.specs.declared.selector.Selector.{Selector}
use Rattle.edit_ops.specs.Changes.{edited}
use Rattle.edit_ops.specs.MovedPaths.{path_below, moved}
use Rattle.edit_ops.specs.declared.change.Change.{Change}
use Rattle.edit_ops.specs.declared.change.Change.TheVariants.{SetAttr, DropAttr}
use Rattle.edit_rules.specs.KeyAddresses.{IsKeyAddressOf}

-- ---- keys that are written

-- the element at q is the one at p, or a descendant of it
abbrev pub IsAtOrBelow : List ℕ → List ℕ → Type 0
IsAtOrBelow p q = IsSome (path_below p q)

-- the name is the key's name of the element at q, which is on the path p: the element at p, or an
-- ancestor of it
pub record IsKeyOnPath (u : Usage) (t : Tree) (p q : List ℕ) (name : Name) : Type 0 where
  pub on_path : IsAtOrBelow q p
  pub kind : ElementKind
  pub key : Key
  pub of_kind : kind_at u t q ≡ Some kind
  pub of_key : key_of kind ≡ Some key
  pub unprefixed : name.prefix ≡ []
  pub local : name.local ≡ attribute_name key

-- the change writes or drops a key attribute of an element on the path
abbrev pub WritesKeyOnPath : Usage → Tree → List ℕ → Change → Type 0
WritesKeyOnPath u t p (SetAttr q name value) = IsKeyOnPath u t p q name
WritesKeyOnPath u t p (DropAttr q name) = IsKeyOnPath u t p q name
WritesKeyOnPath u t p _ = ⊥

-- ---- what addresses select

-- the change of a document leaves what its key addresses select: a selector that selected the
-- element at p selects the element at the path that the change moves p to, if there is one and no
-- key of an element on p is written or dropped; and it is a key address of that element too
abbrev pub KeepsKeyAddresses : Usage → Tree → Change → Type 0
KeepsKeyAddresses u t change =
    (selector : Selector) (p q : List ℕ) → IsKeyAddressOf u t selector p
    → SelectsPath selector.steps t p → moved p change ≡ Some q → (WritesKeyOnPath u t p change → ⊥)
    → SelectsPath selector.steps (edited t change) q × IsKeyAddressOf u (edited t change) selector q
