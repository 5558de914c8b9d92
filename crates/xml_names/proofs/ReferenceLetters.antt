-- The references of the code, read as characters.
use Rattle.std.proofs.Common.{◌≡◌, [], ◌∷◌, refl}
use Rattle.std.specs.Str.{chars}

pub letters_amp : chars (38 ∷ 97 ∷ 109 ∷ 112 ∷ 59 ∷ []) ≡ 38 ∷ 97 ∷ 109 ∷ 112 ∷ 59 ∷ []
unfolding chars
letters_amp = refl

pub letters_lt : chars (38 ∷ 108 ∷ 116 ∷ 59 ∷ []) ≡ 38 ∷ 108 ∷ 116 ∷ 59 ∷ []
unfolding chars
letters_lt = refl

pub letters_gt : chars (38 ∷ 103 ∷ 116 ∷ 59 ∷ []) ≡ 38 ∷ 103 ∷ 116 ∷ 59 ∷ []
unfolding chars
letters_gt = refl

pub letters_quot : chars (38 ∷ 113 ∷ 117 ∷ 111 ∷ 116 ∷ 59 ∷ []) ≡ 38 ∷ 113 ∷ 117 ∷ 111 ∷ 116 ∷ 59 ∷ []
unfolding chars
letters_quot = refl

pub letters_tab : chars (38 ∷ 35 ∷ 120 ∷ 57 ∷ 59 ∷ []) ≡ 38 ∷ 35 ∷ 120 ∷ 57 ∷ 59 ∷ []
unfolding chars
letters_tab = refl

pub letters_lf : chars (38 ∷ 35 ∷ 120 ∷ 65 ∷ 59 ∷ []) ≡ 38 ∷ 35 ∷ 120 ∷ 65 ∷ 59 ∷ []
unfolding chars
letters_lf = refl

pub letters_cr : chars (38 ∷ 35 ∷ 120 ∷ 68 ∷ 59 ∷ []) ≡ 38 ∷ 35 ∷ 120 ∷ 68 ∷ 59 ∷ []
unfolding chars
letters_cr = refl

pub ruleset letters = (letters_amp, letters_lt, letters_gt, letters_quot, letters_tab, letters_lf, letters_cr)
