-- Texts of the code, read as characters.
use Rattle.std.proofs.Common.{◌≡◌, codes, refl}
use Rattle.std.specs.Str.{chars}
use Rattle.patch_rules.proofs.Words.{nothing, sel, letter}

pub pos : chars (codes "pos") ≡ codes "pos"
unfolding chars
pos = refl

pub type_word : chars (codes "type") ≡ codes "type"
unfolding chars
type_word = refl

pub prepend : chars (codes "prepend") ≡ codes "prepend"
unfolding chars
prepend = refl

pub after : chars (codes "after") ≡ codes "after"
unfolding chars
after = refl

pub add : chars (codes "add") ≡ codes "add"
unfolding chars
add = refl

pub replace : chars (codes "replace") ≡ codes "replace"
unfolding chars
replace = refl

pub remove : chars (codes "remove") ≡ codes "remove"
unfolding chars
remove = refl

pub document : chars (codes "document") ≡ codes "document"
unfolding chars
document = refl

pub next_tag : chars (codes "new-etag") ≡ codes "new-etag"
unfolding chars
next_tag = refl

pub former_tag : chars (codes "previous-etag") ≡ codes "previous-etag"
unfolding chars
former_tag = refl

pub at_sign : chars (codes "@") ≡ codes "@"
unfolding chars
at_sign = refl

pub behind_slash : chars (codes "/@") ≡ codes "/@"
unfolding chars
behind_slash = refl

pub empty_end : chars (codes "/>") ≡ codes "/>"
unfolding chars
empty_end = refl

pub ruleset words = (nothing, sel, pos, type_word, prepend, after, add, replace, remove, document, next_tag, former_tag, at_sign, behind_slash, letter, empty_end)
