-- Children that match a step, by their places. RFC 4825, section 6.3.
use Rattle.std.specs.Prelude.{ℕ, List}
use Rattle.xml_tree.specs.Tree.{Tree}
use Rattle.xml_names.specs.declared.names.Decl.{Decl}
use Rattle.node_select.specs.StepSelection as step_laws
use Rattle.node_select.specs.declared.selector.Step.{Step}
use Rattle.node_select.specs.Selection.{step_tests}

-- the i-th of these children, in the scope around them, matches the step
abbrev pub MatchesChild : List (List Decl) → Step → List Tree → ℕ → Type 0
MatchesChild c step child_elements i =
    step_laws.Matches (step_tests c step) child_elements i
