-- Diverging paths.
use Rattle.std.specs.Prelude.{◌≡◌, ◌≢◌, ℕ, List, [], ◌∷◌, ◌⊎◌}

-- the paths agree up to some place, where both have a number and the two differ; so neither
-- begins with the other
abbrev pub AreDiverging : List ℕ → List ℕ → Type 0
AreDiverging [] q = ⊥
AreDiverging (m ∷ p) [] = ⊥
AreDiverging (m ∷ p) (n ∷ q) = (m ≢ n) ⊎ ((m ≡ n) × AreDiverging p q)
