-- The texts that an address is printed from are ASCII.
use Rattle.std.proofs.Common.{◌≡◌, ◌⊎◌, ℕ, Bool, true, List, [], ◌∷◌, ◌++◌, codes, encode_utf8_all, inl, inr, refl, sym, ap, ◌∙◌, arith}
use Rattle.std.proofs.lemmas.Bool.{and_from, and_parts}
use Rattle.std.proofs.lemmas.Bool.Decides.{nat_tests}
use Rattle.std.proofs.lemmas.List.Folds.{list_all-append}
use Rattle.std.proofs.lemmas.Str.{IsAscii-append, encodes-IsAscii, encodes-chars}
use Rattle.std.specs.Char.{is_ascii}
use Rattle.std.specs.List.{list_all}
use Rattle.std.specs.Str.{IsAscii, IsUtf8, chars}
use Rattle.doc_names.proofs.AsciiPrints.{auid_letters, part_letters}
use Rattle.doc_names.proofs.Words.{word_letters}
use Rattle.doc_names.specs.PercentEscapes.{escape_part}
use Rattle.doc_names.specs.DocIds.{home_text, id_text}
use Rattle.doc_names.specs.Usages.{auid_text}
use Rattle.doc_names.specs.declared.doc_id.DocId.{DocId}
use Rattle.doc_names.specs.declared.doc_id.Home.{Home}
use Rattle.doc_names.specs.declared.doc_id.Home.TheVariants.{Global, User}
use Rattle.xcap_uri.specs.Roots.{IsRoot, is_authority_char, is_segment_char, is_one_or_more, path_of_segments}

home_letters : (home : Home) → IsAscii (home_text home)
home_letters Global = word_letters (codes "/global/") refl
home_letters (User xui) =
    IsAscii-append (codes "/users/") (escape_part xui ++ codes "/") (word_letters (codes "/users/") refl)
    (IsAscii-append (escape_part xui) (codes "/") (part_letters xui) (word_letters (codes "/") refl))

-- the octets of a printed id are its characters
pub id_octets : (doc : DocId) → encode_utf8_all (id_text doc) ≡ id_text doc
id_octets doc =
    encodes-IsAscii (id_text doc)
    (IsAscii-append (auid_text doc.auid) (home_text doc.home ++ escape_part doc.name) (auid_letters doc.auid)
    (IsAscii-append (home_text doc.home) (escape_part doc.name) (home_letters doc.home) (part_letters doc.name)))

-- ---- roots

authority_char : (b : ℕ) → is_authority_char b ≡ true → is_ascii b ≡ true
authority_char b h = grind (arith, nat_tests)

segment_char : (b : ℕ) → is_segment_char b ≡ true → is_ascii b ≡ true
segment_char b h = grind (arith, nat_tests)

both : (u v : List ℕ) → list_all is_ascii u ≡ true → list_all is_ascii v ≡ true → list_all is_ascii (u ++ v) ≡ true
both u v a b = list_all-append is_ascii u v ∙ and_from (list_all is_ascii u) (list_all is_ascii v) a b

all_so : (p : ℕ → Bool) → ((b : ℕ) → p b ≡ true → is_ascii b ≡ true) → (bs : List ℕ) → list_all p bs ≡ true → list_all is_ascii bs ≡ true
all_so p f [] h = refl
all_so p f (b ∷ bs) h = let x = and_parts (p b) (list_all p bs) h in and_from (is_ascii b) (list_all is_ascii bs) (f b x.0) (all_so p f bs x.1)

some_so : (p : ℕ → Bool) → ((b : ℕ) → p b ≡ true → is_ascii b ≡ true) → (bs : List ℕ) → is_one_or_more p bs ≡ true → list_all is_ascii bs ≡ true
some_so p f [] h = refl
some_so p f (b ∷ bs) h = all_so p f (b ∷ bs) h

path_ascii : (segments : List (List ℕ)) → list_all (is_one_or_more is_segment_char) segments ≡ true → list_all is_ascii (path_of_segments segments) ≡ true
path_ascii [] h = refl
path_ascii (s ∷ segments) h =
    let x = and_parts (is_one_or_more is_segment_char s) (list_all (is_one_or_more is_segment_char) segments) h in
    both (47 ∷ s) (path_of_segments segments) (some_so is_segment_char segment_char s x.0) (path_ascii segments x.1)

root_ascii : (root authority path : List ℕ) → IsRoot root authority path → list_all is_ascii root ≡ true
root_ascii root authority path is =
    ap (list_all is_ascii) is.joined
    ∙ both is.scheme (authority ++ path) scheme
    (both authority path (some_so is_authority_char authority_char authority is.authority_is) (ap (list_all is_ascii) is.path_is ∙ path_ascii is.segments is.segments_are))
  where
    scheme : list_all is_ascii is.scheme ≡ true
    scheme = by is.scheme_is
      where
        by : (is.scheme ≡ codes "http://") ⊎ (is.scheme ≡ codes "https://") → list_all is_ascii is.scheme ≡ true
        by (inl e) = ap (list_all is_ascii) e
        by (inr e) = ap (list_all is_ascii) e

-- the octets of a root are its characters
pub root_octets : (octets root authority path : List ℕ) → IsRoot root authority path → IsUtf8 octets → chars octets ≡ root → octets ≡ root
root_octets octets root authority path is utf8 letters =
    sym (encodes-chars octets utf8) ∙ ap encode_utf8_all letters ∙ encodes-IsAscii root (word_letters root (root_ascii root authority path is))
