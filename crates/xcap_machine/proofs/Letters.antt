-- Printed names of documents, and roots, consist of Chars.
use Rattle.std.proofs.Common.{◌≡◌, ℕ, ◌<◌, ◌/◌, ◌%◌, Bool, true, false, not, ◌&&◌, ◌⊎◌, List, [], ◌∷◌, ◌++◌, codes, encode_utf8_all, inl, inr, refl, sym, ap, ◌∙◌, arith}
use Rattle.std.proofs.lemmas.Bool.{agree_below, agree_below_at, ltb-true}
use Rattle.std.proofs.lemmas.Bool.Decides.{nat_tests}
use Rattle.std.specs.Char.{is_ascii}
use Rattle.std.specs.Fmt.{digit_glyph}
use Rattle.std.specs.List.{list_all}
use Rattle.percent_encoding.specs.Percent.{percent_encode_byte}
use Rattle.tree_text.proofs.PrintedValues.{both as parts}
use Rattle.xml_names.specs.Characters.{has_only_chars, is_char}
use Rattle.doc_names.specs.PercentEscapes.{escape_octets, escape_octet, is_pchar, escape_part as part_text}
use Rattle.doc_names.specs.DocIds.{home_text, id_text}
use Rattle.doc_names.specs.Usages.{auid_text}
use Rattle.doc_names.specs.declared.doc_id.Auid.{Auid}
use Rattle.doc_names.specs.declared.doc_id.Auid.TheVariants.{ResourceLists, RlsServices, XcapCaps}
use Rattle.doc_names.specs.declared.doc_id.DocId.{DocId}
use Rattle.doc_names.specs.declared.doc_id.Home.{Home}
use Rattle.doc_names.specs.declared.doc_id.Home.TheVariants.{Global, User}
use Rattle.xcap_uri.specs.Roots.{IsRoot, is_authority_char, is_segment_char, is_one_or_more, path_of_segments}
use Rattle.patch_laws.proofs.Prefixes.{both}
use Rattle.patch_laws.proofs.ProperOperations.{chars-append}

-- ---- names of documents

plain_chars : agree_below (λ b. is_pchar b && not (is_char b)) (λ b. false) 128 ≡ true
plain_chars = refl

digit_chars : agree_below (λ n. is_char (digit_glyph true n)) (λ n. true) 16 ≡ true
digit_chars = refl

not_false : (t : Bool) → (true && not t) ≡ false → t ≡ true
not_false true h = refl
not_false false h = sym h

plain_char : (b : ℕ) → is_pchar b ≡ true → is_char b ≡ true
plain_char b h =
    let small = ltb-true b 128 (parts (is_ascii b) _ h).0 in
    not_false (is_char b) (rw h at (agree_below_at (λ c. is_pchar c && not (is_char c)) (λ c. false) 128 b plain_chars small))

digit_char : (n : ℕ) → n < 16 → is_char (digit_glyph true n) ≡ true
digit_char n small = agree_below_at (λ k. is_char (digit_glyph true k)) (λ k. true) 16 n digit_chars small

octet_chars : (b : ℕ) (t : Bool) → is_pchar b ≡ t → has_only_chars (escape_octet is_pchar b) ≡ true
unfolding percent_encode_byte
octet_chars b true h = rw h (both (is_char b) true (plain_char b h) refl)
octet_chars b false h =
    rw h (both (is_char (digit_glyph true (b / 16 % 16))) (is_char (digit_glyph true (b % 16)) && true) (digit_char (b / 16 % 16) (omega arith))
    (both (is_char (digit_glyph true (b % 16))) true (digit_char (b % 16) (omega arith)) refl))

escaped_chars : (bs : List ℕ) → has_only_chars (escape_octets is_pchar bs) ≡ true
escaped_chars [] = refl
escaped_chars (b ∷ bs) = chars-append (escape_octet is_pchar b) (escape_octets is_pchar bs) (octet_chars b (is_pchar b) refl) (escaped_chars bs)

auid_chars : (auid : Auid) → has_only_chars (auid_text auid) ≡ true
auid_chars ResourceLists = refl
auid_chars RlsServices = refl
auid_chars XcapCaps = refl

home_chars : (home : Home) → has_only_chars (home_text home) ≡ true
home_chars Global = refl
home_chars (User xui) = chars-append (codes "/users/") (part_text xui ++ codes "/") refl (chars-append (part_text xui) (codes "/") (escaped_chars (encode_utf8_all xui)) refl)

pub id_chars : (id : DocId) → has_only_chars (id_text id) ≡ true
id_chars id =
    chars-append (auid_text id.auid) (home_text id.home ++ part_text id.name) (auid_chars id.auid)
    (chars-append (home_text id.home) (part_text id.name) (home_chars id.home) (escaped_chars (encode_utf8_all id.name)))

-- ---- roots

authority_char : (b : ℕ) → is_authority_char b ≡ true → is_char b ≡ true
authority_char b h = grind (arith, nat_tests)

segment_char : (b : ℕ) → is_segment_char b ≡ true → is_char b ≡ true
segment_char b h = grind (arith, nat_tests)

all_so : (p : ℕ → Bool) → ((b : ℕ) → p b ≡ true → is_char b ≡ true) → (bs : List ℕ) → list_all p bs ≡ true → has_only_chars bs ≡ true
all_so p f [] h = refl
all_so p f (b ∷ bs) h = let x = parts (p b) (list_all p bs) h in both (is_char b) (has_only_chars bs) (f b x.0) (all_so p f bs x.1)

some_so : (p : ℕ → Bool) → ((b : ℕ) → p b ≡ true → is_char b ≡ true) → (bs : List ℕ) → is_one_or_more p bs ≡ true → has_only_chars bs ≡ true
some_so p f [] h = refl
some_so p f (b ∷ bs) h = all_so p f (b ∷ bs) h

path_chars : (segments : List (List ℕ)) → list_all (is_one_or_more is_segment_char) segments ≡ true → has_only_chars (path_of_segments segments) ≡ true
path_chars [] h = refl
path_chars (s ∷ segments) h =
    let x = parts (is_one_or_more is_segment_char s) (list_all (is_one_or_more is_segment_char) segments) h in
    chars-append (47 ∷ s) (path_of_segments segments) (some_so is_segment_char segment_char s x.0) (path_chars segments x.1)

pub root_chars : (root authority path : List ℕ) → IsRoot root authority path → has_only_chars root ≡ true
root_chars root authority path is =
    ap has_only_chars is.joined
    ∙ chars-append is.scheme (authority ++ path) scheme
    (chars-append authority path (some_so is_authority_char authority_char authority is.authority_is) (ap has_only_chars is.path_is ∙ path_chars is.segments is.segments_are))
  where
    scheme : has_only_chars is.scheme ≡ true
    scheme = by is.scheme_is
      where
        by : (is.scheme ≡ codes "http://") ⊎ (is.scheme ≡ codes "https://") → has_only_chars is.scheme ≡ true
        by (inl e) = ap has_only_chars e
        by (inr e) = ap has_only_chars e
