-- What a step finds in a child by its start tag.
use Rattle.std.specs.Prelude.{ℕ, List, Option, None, find, option_map, if◌then◌else◌}
use Rattle.xml_tree.specs.Tree.{Tree}
use Rattle.node_select.specs.Selection.{is_attr_named, is_tested}
use Rattle.node_select.specs.declared.selector.Step.{Step}
use Rattle.usage_docs.specs.SchemaTable.{Scope}
use Rattle.xml_tree.specs.TreeScopes.{inside}

-- the value that a step and the name of an attribute find in a child with this start tag: none if
-- the step doesn't test the attribute, or the attribute is absent
abbrev pub tested_value : Scope → Step → List ℕ → List ℕ → Tree → Option (List ℕ)
tested_value c step uri local tag =
    if is_tested c step tag
    then option_map (λ a. a.value) (find (is_attr_named (inside c tag) uri local) tag.attrs)
    else None
