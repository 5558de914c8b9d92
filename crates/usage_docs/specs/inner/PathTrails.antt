-- Places as linked steps.
use Rattle.std.specs.Prelude.{ℕ, List, [], ◌∷◌, ◌++◌}
use Rattle.usage_docs.specs.declared.path_trail.TrailStep.{TrailStep}
use Rattle.usage_docs.specs.declared.path_trail.TrailStep.TheVariants.{At, Child}

-- the numbers of the place, from the outermost on
abbrev pub trail_numbers : TrailStep → List ℕ
trail_numbers (At path) = path.now
trail_numbers (Child outer number) = outer.now ++ number ∷ []
