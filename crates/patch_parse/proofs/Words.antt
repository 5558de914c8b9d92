-- Texts of the code, read as characters.
use Rattle.std.proofs.Common.{◌≡◌, codes, refl}
use Rattle.std.specs.Str.{chars}

pub sel : chars (codes "sel") ≡ codes "sel"
unfolding chars
sel = refl

pub pos : chars (codes "pos") ≡ codes "pos"
unfolding chars
pos = refl

pub type_word : chars (codes "type") ≡ codes "type"
unfolding chars
type_word = refl

pub ws : chars (codes "ws") ≡ codes "ws"
unfolding chars
ws = refl

pub prepend : chars (codes "prepend") ≡ codes "prepend"
unfolding chars
prepend = refl

pub before : chars (codes "before") ≡ codes "before"
unfolding chars
before = refl

pub after : chars (codes "after") ≡ codes "after"
unfolding chars
after = refl

pub both : chars (codes "both") ≡ codes "both"
unfolding chars
both = refl

pub add : chars (codes "add") ≡ codes "add"
unfolding chars
add = refl

pub replace : chars (codes "replace") ≡ codes "replace"
unfolding chars
replace = refl

pub remove : chars (codes "remove") ≡ codes "remove"
unfolding chars
remove = refl

pub document : chars (codes "document") ≡ codes "document"
unfolding chars
document = refl

pub diff : chars (codes "xcap-diff") ≡ codes "xcap-diff"
unfolding chars
diff = refl

pub root : chars (codes "xcap-root") ≡ codes "xcap-root"
unfolding chars
root = refl

pub next_tag : chars (codes "new-etag") ≡ codes "new-etag"
unfolding chars
next_tag = refl

pub former_tag : chars (codes "previous-etag") ≡ codes "previous-etag"
unfolding chars
former_tag = refl

pub same_body : chars (codes "body-not-changed") ≡ codes "body-not-changed"
unfolding chars
same_body = refl

pub declaring : chars (codes "xmlns") ≡ codes "xmlns"
unfolding chars
declaring = refl

pub ruleset words = (sel, pos, type_word, ws, prepend, before, after, both, add, replace, remove, document, diff, root, next_tag, former_tag, same_body, declaring)
