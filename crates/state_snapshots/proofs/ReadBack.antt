-- The parts of a snapshot are read back.
use Rattle.std.proofs.Common.{◌≡◌, ℕ, ◌<◌, ◌^◌, Bool, List, ◌++◌, length, cond, Option, None, Some, option_map, encode_utf8_all, refl, ap, ◌∙◌, append_assoc, arith}
use Rattle.std.specs.Int.{w64, to_be_bytes}
use Rattle.std.specs.Option.{option_and_then}
use Rattle.std.specs.Str.{chars}
use Rattle.std.proofs.lemmas.Bool.{le-ltb}
use Rattle.std.proofs.lemmas.List.{length-append}
use Rattle.std.proofs.lemmas.Nat.{from_be_bytes-to_be_bytes_8}
use Rattle.std.proofs.lemmas.Str.{chars-encodes, is_utf8-from_IsUtf8}
use Rattle.byte_blocks.specs.Blocks.{block}
use Rattle.byte_blocks.proofs.Reading.{read_back}
use Rattle.doc_names.specs.declared.doc_id.Auid.{Auid}
use Rattle.doc_names.specs.declared.doc_id.Auid.TheVariants.{ResourceLists, RlsServices, XcapCaps}
use Rattle.doc_names.specs.declared.doc_id.DocId.{DocId}
use Rattle.doc_names.specs.declared.doc_id.Home.{Home}
use Rattle.doc_names.specs.declared.doc_id.Home.TheVariants.{Global, User}
use Rattle.state_snapshots.specs.Names.{IsEncodableHome, IsEncodableName, IsEncodableText}
use Rattle.state_snapshots.specs.Readings.{auid_at, document_of, home_at, id_after, id_at, number_at, start_of_bytes, text_at, text_of_block}
use Rattle.state_snapshots.specs.Snapshots.{DocumentPart, Start, auid_number, document_part, home_bytes, name_bytes, start_part}

number_back : (n : ℕ) (rest : List ℕ) → n < 2 ^ 64 → number_at (to_be_bytes w64 n ++ rest) ≡ Some (n, rest)
unfolding number_at
number_back n rest fits =
    rw (
      le-ltb (length (to_be_bytes w64 n ++ rest)) 8 (omega (arith, length-append (to_be_bytes w64 n) rest)),
      from_be_bytes-to_be_bytes_8 n fits,
    ) refl

text_back : (text rest : List ℕ) → IsEncodableText text → text_at (block (encode_utf8_all text) ++ rest) ≡ Some (text, rest)
unfolding text_at
text_back text rest is =
    let bytes = encode_utf8_all text in
    ap (λ (o : Option (List ℕ × List ℕ)). option_and_then text_of_block o) (read_back bytes rest is.short)
    ∙ ap (λ (b : Bool). cond b (Some (chars bytes, rest)) None) (is_utf8-from_IsUtf8 bytes (text, (is.characters, refl)))
    ∙ ap (λ (l : List ℕ). Some (l, rest)) (chars-encodes text is.characters)

home_back : (home : Home) (rest : List ℕ) → IsEncodableHome home → home_at (home_bytes home ++ rest) ≡ Some (home, rest)
home_back Global rest is = refl
home_back (User xui) rest is = ap (λ (o : Option (List ℕ × List ℕ)). option_map (λ user. (User user.0, user.1)) o) (text_back xui rest is)

own_auid : (auid : Auid) → auid_at (auid_number auid) ≡ Some auid
own_auid ResourceLists = refl
own_auid RlsServices = refl
own_auid XcapCaps = refl

abbrev named : Auid → Home → List ℕ × List ℕ → DocId × List ℕ
named auid home name = (record { auid = auid; home = home; name = name.0 }, name.1)

abbrev with_home : Auid → Home × List ℕ → Option (DocId × List ℕ)
with_home auid home = option_map (named auid home.0) (text_at home.1)

after_back : (id : DocId) (rest : List ℕ) → IsEncodableName id → id_after id.auid (home_bytes id.home ++ (block (encode_utf8_all id.name) ++ rest)) ≡ Some (id, rest)
after_back id rest is =
    ap (λ (o : Option (Home × List ℕ)). option_and_then (with_home id.auid) o) (home_back id.home (block (encode_utf8_all id.name) ++ rest) is.0)
    ∙ ap (λ (o : Option (List ℕ × List ℕ)). option_map (named id.auid id.home) o) (text_back id.name rest is.1)

id_back : (id : DocId) (rest : List ℕ) → IsEncodableName id → id_at (name_bytes id ++ rest) ≡ Some (id, rest)
id_back id rest is =
    ap (λ (o : Option Auid). option_and_then (λ auid. id_after auid ((home_bytes id.home ++ block (encode_utf8_all id.name)) ++ rest)) o) (own_auid id.auid)
    ∙ ap (id_after id.auid) (append_assoc (home_bytes id.home) (block (encode_utf8_all id.name)) rest)
    ∙ after_back id rest is

pub document_back : (part : DocumentPart) → part.tag < 2 ^ 64 → IsEncodableName part.id → document_of (document_part part) ≡ Some part
document_back part fits is =
    ap (λ (o : Option (ℕ × List ℕ)). option_and_then with_tag o) (number_back part.tag (name_bytes part.id ++ part.text) fits)
    ∙ ap (λ (o : Option (DocId × List ℕ)). option_map (λ id. record { id = id.0; tag = part.tag; text = id.1 }) o) (id_back part.id part.text is)
  where
    with_tag : ℕ × List ℕ → Option DocumentPart
    with_tag tag = option_map (λ id. record { id = id.0; tag = tag.0; text = id.1 }) (id_at tag.1)

pub start_back : (start : Start) → start.count < 2 ^ 64 → start.next < 2 ^ 64 → start_of_bytes (start_part start) ≡ Some start
start_back start counted numbered =
    ap (λ (o : Option (ℕ × List ℕ)). option_and_then with_count o) (number_back start.count (to_be_bytes w64 start.next ++ start.root) counted)
    ∙ ap (λ (o : Option (ℕ × List ℕ)). option_map (λ next. record { count = start.count; next = next.0; root = next.1 }) o) (number_back start.next start.root numbered)
  where
    with_count : ℕ × List ℕ → Option Start
    with_count count = option_map (λ next. record { count = count.0; next = next.0; root = next.1 }) (number_at count.1)
