-- A removal seen from the parent alone.
use Rattle.std.specs.Prelude.{ℕ, suc, List, remove, Option, IsTrue}
use Rattle.std.specs.Option.{ForSome}
use Rattle.xml_tree.specs.Tree.{Content, Tree}
use Rattle.node_select.specs.Selection.{SelectsChild}
use Rattle.node_select.specs.declared.selector.Step.{Step}
use Rattle.usage_docs.specs.declared.schema_table.ElementKind.{ElementKind}
use Rattle.usage_docs.specs.SchemaTable.{Scope}
use Rattle.usage_docs.specs.readers.ContentParts.{may_follow}
use Rattle.usage_docs.specs.readers.NeighbourParts.{part_before, part_after}

-- without the child the step still selects a child
abbrev pub StillSelectsChild : Scope → Step → List Tree → ℕ → Type 0
StillSelectsChild c step child_elements j =
    (i : ℕ) × SelectsChild c step (remove child_elements j) i

-- without the child the next one may follow the one before it, by the content model of the kind,
-- if there is one
abbrev pub NeighboursMayMeet : Option ElementKind → Scope → Content → ℕ → Type 0
NeighboursMayMeet row c content j =
    ForSome row (λ kind.
    IsTrue (may_follow kind (part_before kind c 0 j content) (part_after kind c (suc j) content)))
