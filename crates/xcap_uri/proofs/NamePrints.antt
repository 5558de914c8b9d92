-- The printed name of a document names it.
use Rattle.std.proofs.Common.{◌≡◌, ℕ, true, List, [], ◌∷◌, ◌++◌, Some, IsAscii, codes, encode_utf8_all, refl, ap, ◌∙◌, append_assoc}
use Rattle.std.proofs.lemmas.Bool.{and_parts}
use Rattle.std.proofs.lemmas.Str.{IsAscii-append, encodes-IsAscii}
use Rattle.std.specs.Str.{all_scalars}
use Rattle.percent_encoding.specs.Percent.{percent_decode}
use Rattle.doc_names.specs.PercentEscapes.{escape_part}
use Rattle.doc_names.specs.DocIds.{home_text, id_text}
use Rattle.doc_names.specs.Usages.{auid_text}
use Rattle.doc_names.specs.declared.doc_id.Auid.{Auid}
use Rattle.doc_names.specs.declared.doc_id.Auid.TheVariants.{ResourceLists, RlsServices, XcapCaps}
use Rattle.doc_names.specs.declared.doc_id.DocId.{DocId}
use Rattle.doc_names.specs.declared.doc_id.Home.{Home}
use Rattle.doc_names.specs.declared.doc_id.Home.TheVariants.{Global, User}
use Rattle.doc_names.proofs.AsciiPrints.{auid_letters, part_letters}
use Rattle.doc_names.proofs.Words.{word_letters}
use Rattle.xcap_uri.specs.PrintedNames.{parts_decode_to, home_parts, is_encodable, is_encodable_home, is_name_of, part_decodes_to}
use Rattle.xcap_uri.proofs.Parts.{has_no_slash, last_part, one_more_part, printed_free, printed_stands, word_stands}

-- ---- words

auid_free : (auid : Auid) → has_no_slash (auid_text auid) ≡ true
auid_free ResourceLists = refl
auid_free RlsServices = refl
auid_free XcapCaps = refl

auid_stands : (auid : Auid) → part_decodes_to (auid_text auid) (auid_text auid) ≡ true
unfolding percent_decode
auid_stands ResourceLists = word_stands (auid_text ResourceLists) refl refl
auid_stands RlsServices = word_stands (auid_text RlsServices) refl refl
auid_stands XcapCaps = word_stands (auid_text XcapCaps) refl refl

global_stands : part_decodes_to (codes "global") (codes "global") ≡ true
unfolding percent_decode
global_stands = word_stands (codes "global") refl refl

users_stand : part_decodes_to (codes "users") (codes "users") ≡ true
unfolding percent_decode
users_stand = word_stands (codes "users") refl refl

-- ---- the printed name in parts

-- what comes after the AUID and its slash
abbrev behind_auid : Home → List ℕ → List ℕ
behind_auid Global name = codes "global" ++ 47 ∷ escape_part name
behind_auid (User xui) name = codes "users" ++ 47 ∷ (escape_part xui ++ 47 ∷ escape_part name)

cut : (auid : Auid) (home : Home) (name : List ℕ) → id_text (record { auid = auid; home = home; name = name }) ≡ auid_text auid ++ 47 ∷ behind_auid home name
cut auid Global name = refl
cut auid (User xui) name =
    ap (λ (l : List ℕ). auid_text auid ++ 47 ∷ (codes "users" ++ 47 ∷ l)) (append_assoc (escape_part xui) (codes "/") (escape_part name))

named : (name : List ℕ) → all_scalars name ≡ true → parts_decode_to (encode_utf8_all name ∷ []) (Some (escape_part name)) ≡ true
named name h = last_part (encode_utf8_all name) (escape_part name) (printed_free name) (printed_stands name h)

home_named : (home : Home) (name : List ℕ) → is_encodable_home home ≡ true → all_scalars name ≡ true → parts_decode_to (home_parts home ++ encode_utf8_all name ∷ []) (Some (behind_auid home name)) ≡ true
home_named Global name user h = one_more_part (codes "global") (codes "global") (escape_part name) (encode_utf8_all name ∷ []) refl global_stands (named name h)
home_named (User xui) name user h =
    one_more_part (codes "users") (codes "users") (escape_part xui ++ 47 ∷ escape_part name) (encode_utf8_all xui ∷ encode_utf8_all name ∷ []) refl users_stand
    (one_more_part (encode_utf8_all xui) (escape_part xui) (escape_part name) (encode_utf8_all name ∷ []) (printed_free xui) (printed_stands xui user) (named name h))

home_letters : (home : Home) → IsAscii (home_text home)
home_letters Global = word_letters (codes "/global/") refl
home_letters (User xui) =
    IsAscii-append (codes "/users/") (escape_part xui ++ codes "/") (word_letters (codes "/users/") refl)
    (IsAscii-append (escape_part xui) (codes "/") (part_letters xui) (word_letters (codes "/") refl))

id_letters : (doc : DocId) → IsAscii (id_text doc)
id_letters doc =
    IsAscii-append (auid_text doc.auid) (home_text doc.home ++ escape_part doc.name) (auid_letters doc.auid)
    (IsAscii-append (home_text doc.home) (escape_part doc.name) (home_letters doc.home) (part_letters doc.name))

pub names : (doc : DocId) → is_encodable doc ≡ true → is_name_of doc (id_text doc) ≡ true
names doc h =
    let both = and_parts (is_encodable_home doc.home) (all_scalars doc.name) h in
    ap (λ (l : List ℕ). parts_decode_to (auid_text doc.auid ∷ (home_parts doc.home ++ encode_utf8_all doc.name ∷ [])) (Some l)) (encodes-IsAscii (id_text doc) (id_letters doc) ∙ cut doc.auid doc.home doc.name)
    ∙ one_more_part (auid_text doc.auid) (auid_text doc.auid) (behind_auid doc.home doc.name) (home_parts doc.home ++ encode_utf8_all doc.name ∷ [])
    (auid_free doc.auid) (auid_stands doc.auid) (home_named doc.home doc.name both.0 both.1)
