-- Printed names of documents, read back. RFC 4825, section 6.2; RFC 3986, sections 2.1 and 3.3.
use Rattle.std.specs.Prelude.{ℕ, Bool, true, false, ◌&&◌, codes, encode_utf8_all, List, [], ◌∷◌}
use Rattle.std.specs.Prelude.{◌++◌, Option, None, Some}
use Rattle.std.specs.Str.{all_scalars, bytes_eq}
use Rattle.percent_encoding.specs.Percent.{percent_decode}
use Rattle.doc_names.specs.Usages.{auid_text}
use Rattle.doc_names.specs.declared.doc_id.Home.{Home}
use Rattle.doc_names.specs.declared.doc_id.Home.TheVariants.{Global, User}
use Rattle.doc_names.specs.declared.doc_id.DocId.{DocId}
use Rattle.xcap_uri.specs.Delimiters.{front_before, rest_after}
use Rattle.xcap_uri.specs.Escapes.{has_complete_escapes}

-- a part of an address decodes to these octets: its escapes are complete
abbrev pub part_decodes_to : List ℕ → List ℕ → Bool
part_decodes_to octets part = has_complete_escapes part && bytes_eq (percent_decode part) octets

-- the parts of an address, between its slashes (47), decode to these, one for each
abbrev pub parts_decode_to : List (List ℕ) → Option (List ℕ) → Bool
parts_decode_to [] None = true
parts_decode_to [] (Some address) = false
parts_decode_to (octets ∷ all) None = false
parts_decode_to (octets ∷ all) (Some address) =
    part_decodes_to octets (front_before 47 address) && parts_decode_to all (rest_after 47 address)

-- the decoded parts of a home's name: `global`, or `users` and the user
abbrev pub home_parts : Home → List (List ℕ)
home_parts Global = codes "global" ∷ []
home_parts (User xui) = codes "users" ∷ encode_utf8_all xui ∷ []

-- a text is the name of a document, its parts decoded: the AUID, the home, and the document's own
-- name
abbrev pub is_name_of : DocId → List ℕ → Bool
is_name_of doc name =
    parts_decode_to (auid_text doc.auid ∷ (home_parts doc.home ++ encode_utf8_all doc.name ∷ []))
    (Some (encode_utf8_all name))

-- ---- names that UTF-8 can write

abbrev pub is_encodable_home : Home → Bool
is_encodable_home Global = true
is_encodable_home (User xui) = all_scalars xui

-- the user and the name of a document consist of Unicode characters
abbrev pub is_encodable : DocId → Bool
is_encodable doc = is_encodable_home doc.home && all_scalars doc.name
