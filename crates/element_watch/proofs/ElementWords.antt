-- Texts of the code on elements, read as characters.
use Rattle.std.proofs.Common.{◌≡◌, codes, refl}
use Rattle.std.specs.Str.{chars}

pub element : chars (codes "element") ≡ codes "element"
unfolding chars
element = refl

pub exists_word : chars (codes "exists") ≡ codes "exists"
unfolding chars
exists_word = refl

pub true_word : chars (codes "true") ≡ codes "true"
unfolding chars
true_word = refl

pub false_word : chars (codes "false") ≡ codes "false"
unfolding chars
false_word = refl

pub separated : chars (codes "/~~/") ≡ codes "/~~/"
unfolding chars
separated = refl
