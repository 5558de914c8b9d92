-- Texts of the code, read as characters.
use Rattle.std.proofs.Common.{◌≡◌, ℕ, List, [], ◌∷◌, ◌++◌, codes, refl, ◌∙◌, append_assoc}
use Rattle.std.specs.Str.{chars}

pub feeds : chars (codes "~feed/aggregate/") ≡ codes "~feed/aggregate/"
unfolding chars
feeds = refl

-- parts of an address, as one
pub joined : (front part behind : List ℕ) → ((front ++ part) ++ 47 ∷ []) ++ behind ≡ front ++ (part ++ 47 ∷ behind)
joined front part behind = append_assoc (front ++ part) (47 ∷ []) behind ∙ append_assoc front part (47 ∷ behind)
