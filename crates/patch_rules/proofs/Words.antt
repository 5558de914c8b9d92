-- Texts of the code, read as characters.
use Rattle.std.proofs.Common.{◌≡◌, [], codes, refl}
use Rattle.std.specs.Str.{chars}

pub nothing : chars [] ≡ []
unfolding chars
nothing = refl

pub sel : chars (codes "sel") ≡ codes "sel"
unfolding chars
sel = refl

pub diff : chars (codes "xcap-diff") ≡ codes "xcap-diff"
unfolding chars
diff = refl

pub root : chars (codes "xcap-root") ≡ codes "xcap-root"
unfolding chars
root = refl

pub uri : chars (codes "urn:ietf:params:xml:ns:xcap-diff") ≡ codes "urn:ietf:params:xml:ns:xcap-diff"
unfolding chars
uri = refl

pub letter : chars (codes "d") ≡ codes "d"
unfolding chars
letter = refl

pub ruleset words = (nothing, sel, diff, root, uri, letter)
