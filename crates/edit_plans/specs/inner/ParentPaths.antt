-- A property of a parent, stated at an element above it.
use Rattle.std.specs.Prelude.{◌≡◌, ◌++◌, ℕ, List, Option, Some}
use Rattle.xml_tree.specs.TreeScopes.{scope_below}
use Rattle.xml_tree.specs.Tree.{Tree, at}
use Rattle.usage_docs.specs.declared.schema_table.ElementKind.{ElementKind}
use Rattle.usage_docs.specs.SchemaTable.{Scope}
use Rattle.usage_docs.specs.inner.KindsBelow.{kind_below_if_known}

-- the path leads from an element of this kind, if it has one, in the scope inside it, to a parent
-- of which P holds, in the scope inside that and by its element kind
abbrev pub HoldsAtParent : (Option ElementKind → Scope → Tree → Type 0) → Option ElementKind → Scope
    → Tree
    → List ℕ → Type 0
HoldsAtParent P row c e way =
    (parent : Tree) → at way e ≡ Some parent
    → P (kind_below_if_known row c e way) (c ++ scope_below way e) parent
