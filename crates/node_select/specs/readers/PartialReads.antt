-- The members of repetitions, as loops read them.
use Rattle.std.specs.Prelude.{ℕ, List, ◌++◌}
use Rattle.node_select.specs.Grammar.{pieces_text}
use Rattle.node_select.specs.readers.RawSelectors.{RawStep}

-- a value so far, and the pieces that follow
abbrev pub value_with : List ℕ → List (ℕ × List ℕ) → List ℕ
value_with front pieces = front ++ pieces_text pieces

-- steps so far, and the steps that follow
abbrev pub steps_with : List RawStep → List RawStep → List RawStep
steps_with front steps = front ++ steps
