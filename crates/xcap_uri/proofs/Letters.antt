-- Texts of the code, read as characters.
use Rattle.std.proofs.Common.{◌≡◌, [], ◌∷◌, refl}
use Rattle.std.specs.Str.{chars}

-- `/~~/`
pub separator : chars (47 ∷ 126 ∷ 126 ∷ 47 ∷ []) ≡ 47 ∷ 126 ∷ 126 ∷ 47 ∷ []
unfolding chars
separator = refl

-- `%5B` and `%5D`
pub open_bracket : chars (37 ∷ 53 ∷ 66 ∷ []) ≡ 37 ∷ 53 ∷ 66 ∷ []
unfolding chars
open_bracket = refl

pub close_bracket : chars (37 ∷ 53 ∷ 68 ∷ []) ≡ 37 ∷ 53 ∷ 68 ∷ []
unfolding chars
close_bracket = refl

pub ruleset letters = (separator, open_bracket, close_bracket)
