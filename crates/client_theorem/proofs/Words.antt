-- Words of addresses, each of which is decoded to itself; and literals of the code, read as
-- characters.
use Rattle.std.proofs.Common.{◌≡◌, ℕ, true, List, bytes_eq, codes, refl, sym, ap, ◌∙◌}
use Rattle.std.proofs.lemmas.Bool.{and_from, and_parts}
use Rattle.std.proofs.lemmas.Str.{IsUtf8-from_ascii, is_utf8-from_IsUtf8}
use Rattle.std.specs.Cmp.Lexicographic.{bytes_decides}
use Rattle.std.specs.Str.{IsAscii, chars, is_utf8}
use Rattle.percent_encoding.specs.Percent.{percent_decode}
use Rattle.doc_names.proofs.Words.{word_letters}
use Rattle.xcap_uri.specs.Escapes.{DecodesTo, has_complete_escapes}
use Rattle.xcap_uri.specs.Shapes.{mode_name}
use Rattle.xcap_uri.specs.Words.{feed}
use Rattle.xcap_uri.specs.declared.target.Mode.{Mode}
use Rattle.xcap_uri.specs.declared.target.Mode.TheVariants.{NoPatching, XcapPatching, Aggregate}
use Rattle.xcap_uri.specs.PrintedNames.{part_decodes_to}
use Rattle.xcap_uri.proofs.Parts.{word_stands}
use Rattle.client_theorem.specs.FeedRequests.{mode_text}

-- ASCII octets that are a part decoded to itself are decoded to their characters
pub stands_for_itself : (word : List ℕ) → IsAscii word → part_decodes_to word word ≡ true → DecodesTo word (chars word)
stands_for_itself word ascii is =
    let both = and_parts (has_complete_escapes word) (bytes_eq (percent_decode word) word) is in
    let same : percent_decode word ≡ word = (bytes_decides (percent_decode word) word).0 both.1 in
    record {
      stands = and_from (has_complete_escapes word) (is_utf8 (percent_decode word)) both.0 (ap is_utf8 same ∙ is_utf8-from_IsUtf8 word (IsUtf8-from_ascii word ascii));
      decoded = sym (ap chars same);
    }

pub feed_stands : DecodesTo (codes "~feed") feed
unfolding percent_decode
feed_stands = stands_for_itself (codes "~feed") (word_letters (codes "~feed") refl) (word_stands (codes "~feed") refl refl)

pub mode_stands : (mode : Mode) → DecodesTo (mode_text mode) (mode_name mode)
unfolding percent_decode
mode_stands NoPatching = stands_for_itself (codes "no-patching") (word_letters (codes "no-patching") refl) (word_stands (codes "no-patching") refl refl)
mode_stands XcapPatching = stands_for_itself (codes "xcap-patching") (word_letters (codes "xcap-patching") refl) (word_stands (codes "xcap-patching") refl refl)
mode_stands Aggregate = stands_for_itself (codes "aggregate") (word_letters (codes "aggregate") refl) (word_stands (codes "aggregate") refl refl)

-- ---- literals of the code

pub get : chars (codes "GET") ≡ codes "GET"
unfolding chars
get = refl

pub user_name : chars (codes "X-XCAP-User") ≡ codes "X-XCAP-User"
unfolding chars
user_name = refl
