-- The kind of an element below another.
use Rattle.std.specs.Prelude.{ℕ, List, Option, option_and_then}
use Rattle.xml_tree.specs.Tree.{Tree}
use Rattle.usage_docs.specs.declared.schema_table.ElementKind.{ElementKind}
use Rattle.usage_docs.specs.SchemaTable.{Scope}
use Rattle.usage_docs.specs.ElementKinds.{kind_below}

-- the kind of the element at a path below an element, where that has a kind
abbrev pub kind_below_if_known : Option ElementKind → Scope → Tree → List ℕ → Option ElementKind
kind_below_if_known row c e q = option_and_then (λ kind. kind_below kind c e q) row
