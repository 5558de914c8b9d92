-- What is printed is ASCII, so its characters are its octets.
use Rattle.std.proofs.Common.{◌≡◌, ℕ, List, ◌++◌, codes, encode_utf8_all, refl, subst}
use Rattle.std.proofs.lemmas.Str.{chars-IsAscii, IsAscii-append}
use Rattle.std.specs.Str.{IsAscii, chars}
use Rattle.percent_encoding.proofs.PercentLemmas.{IsAscii-percent_encode}
use Rattle.doc_names.specs.declared.escapes.TheConstants.{ESCAPED_IN_PARTS, INVISIBLE}
use Rattle.doc_names.specs.declared.doc_id.Auid.{Auid}
use Rattle.doc_names.specs.declared.doc_id.Auid.TheVariants.{ResourceLists, RlsServices, XcapCaps}
use Rattle.doc_names.specs.declared.doc_id.Home.{Home}
use Rattle.doc_names.specs.declared.doc_id.Home.TheVariants.{Global, User}
use Rattle.doc_names.specs.declared.doc_id.DocId.{DocId}
use Rattle.doc_names.specs.PercentEscapes.{escape_octets, is_visible, escape_part as part_text}
use Rattle.doc_names.specs.DocIds.{home_text, id_text}
use Rattle.doc_names.specs.Usages.{auid_text}
use Rattle.doc_names.proofs.Words.{word_letters}
use Rattle.doc_names.proofs.OctetPrints.{parts_escaped, visible_escaped}

pub part_letters : (text : List ℕ) → IsAscii (part_text text)
part_letters text = subst IsAscii (parts_escaped (encode_utf8_all text)) (IsAscii-percent_encode ESCAPED_IN_PARTS (encode_utf8_all text))

pub auid_letters : (auid : Auid) → IsAscii (auid_text auid)
auid_letters ResourceLists = word_letters (codes "resource-lists") refl
auid_letters RlsServices = word_letters (codes "rls-services") refl
auid_letters XcapCaps = word_letters (codes "xcap-caps") refl

home_letters : (home : Home) → IsAscii (home_text home)
home_letters Global = word_letters (codes "/global/") refl
home_letters (User xui) = IsAscii-append (codes "/users/") (part_text xui ++ codes "/") (word_letters (codes "/users/") refl) (IsAscii-append (part_text xui) (codes "/") (part_letters xui) (word_letters (codes "/") refl))

pub id_letters : (doc : DocId) → chars (id_text doc) ≡ id_text doc
id_letters doc = chars-IsAscii (id_text doc) (IsAscii-append (auid_text doc.auid) (home_text doc.home ++ part_text doc.name) (auid_letters doc.auid) (IsAscii-append (home_text doc.home) (part_text doc.name) (home_letters doc.home) (part_letters doc.name)))

-- the selector in an element's xcap-diff document
pub visible_letters : (octets : List ℕ) → chars (escape_octets is_visible octets) ≡ escape_octets is_visible octets
visible_letters octets = chars-IsAscii (escape_octets is_visible octets) (subst IsAscii (visible_escaped octets) (IsAscii-percent_encode INVISIBLE octets))
