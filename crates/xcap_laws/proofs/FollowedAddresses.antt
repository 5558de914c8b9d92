-- The addresses that a follower asks for mean its document, and the document's feed since a tag.
use Rattle.std.proofs.Common.{◌≡◌, ◌⊎◌, inl, inr, ℕ, ◌≤◌, ◌==◌, ◌||◌, Bool, true, List, [], ◌∷◌, ◌++◌, drop, Option, None, Some, Ok, codes, decimal, encode_utf8_all, refl, sym, ap, ◌∙◌, subst, arith}
use Rattle.std.proofs.lemmas.Bool.{and_from, and_parts, cond-true}
use Rattle.std.proofs.lemmas.Bool.Decides.{nat_tests}
use Rattle.std.proofs.lemmas.Str.{IsAscii-append, encodes-IsAscii}
use Rattle.std.specs.Char.{is_ascii, is_ascii_alphanumeric, is_ascii_digit}
use Rattle.std.specs.List.{list_all, list_any}
use Rattle.std.specs.Str.{IsAscii}
use Rattle.xml_names.specs.Limits.{u64_max}
use Rattle.doc_names.specs.PercentEscapes.{escape_octets, escape_octet, escape_part, is_pchar}
use Rattle.doc_names.specs.DocIds.{home_text, id_text}
use Rattle.doc_names.specs.Usages.{auid_text}
use Rattle.doc_names.specs.declared.doc_id.DocId.{DocId}
use Rattle.doc_names.specs.declared.doc_id.Home.{Home}
use Rattle.doc_names.specs.declared.doc_id.Home.TheVariants.{Global, User}
use Rattle.doc_names.proofs.AsciiPrints.{auid_letters, part_letters}
use Rattle.doc_names.proofs.Words.{word_letters}
use Rattle.xcap_uri.specs.Delimiters.{pieces}
use Rattle.xcap_uri.specs.Numerals.{numeral_of}
use Rattle.xcap_uri.specs.Roots.{IsRoot, authority_of, path_of_segments, path_of, slash}
use Rattle.xcap_uri.specs.Shapes.{parse_tag}
use Rattle.xcap_uri.specs.Targets.{IsRestAnswer, IsTargetResult, rest_under, rest_under_root}
use Rattle.xcap_uri.proofs.AddressedDocuments.{there}
use Rattle.xcap_uri.specs.declared.target.Mode.TheVariants.{Aggregate}
use Rattle.xcap_uri.specs.declared.target.Target.TheVariants.{Document, Feed}
use Rattle.xcap_client.specs.Asks.{get_ask}
use Rattle.xcap_client.specs.Requests.{target_of}
use Rattle.xcap_client.proofs.RootLetters.{root_path_visible}
use Rattle.xcap_client.proofs.Visible.{visible_utf8}
use Rattle.client_follower.specs.FeedPaths.{feed_path}
use Rattle.client_theorem.specs.FeedRequests.{feed_address, mode_text}
use Rattle.client_theorem.proofs.Addresses.{regrouped, rest_inside, same_rest, under_itself}
use Rattle.client_theorem.proofs.Numerals.{numeral_ascii, numeral_digits, printed_numeral}

-- ---- what comes after a root

outside : (root target cs zs : List ℕ) → root ≡ 104 ∷ cs → target ≡ slash ∷ zs → rest_under root target ≡ None
outside root target cs zs e h = rw (e, h) refl

path_begins : (segments : List (List ℕ)) (ys : List ℕ) → (zs : List ℕ) × (path_of_segments segments ++ (slash ∷ ys) ≡ slash ∷ zs)
path_begins [] ys = (ys, refl)
path_begins (s ∷ ss) ys = ((s ++ path_of_segments ss) ++ (slash ∷ ys), refl)

-- ---- texts

-- the octets of a printed number
octets : (n : ℕ) → 1 ≤ n → n ≤ u64_max → encode_utf8_all (decimal n) ≡ decimal n
octets n some small = encodes-IsAscii (decimal n) (numeral_ascii (decimal n) n (printed_numeral n some small))

alphanumeric : (b : ℕ) → is_ascii_digit b ≡ true → is_ascii_alphanumeric b ≡ true
alphanumeric b is = grind (arith, nat_tests)

in_ascii : (b : ℕ) → is_ascii_digit b ≡ true → is_ascii b ≡ true
in_ascii b is = grind (arith, nat_tests)

digit_plain : (b : ℕ) → is_ascii_digit b ≡ true → is_pchar b ≡ true
digit_plain b is = and_from (is_ascii b) _ (in_ascii b is) (ap (λ (x : Bool). x || list_any (λ c. b == c) (codes "-._~!$&'()*+,;=:@")) (alphanumeric b is))

octet_plain : (b : ℕ) → is_pchar b ≡ true → escape_octet is_pchar b ≡ b ∷ []
octet_plain b is = cond-true (is_pchar b) (b ∷ []) _ is

digits_plain : (bytes : List ℕ) → list_all is_ascii_digit bytes ≡ true → escape_octets is_pchar bytes ≡ bytes
digits_plain [] all = refl
digits_plain (b ∷ bytes) all =
    let both = and_parts (is_ascii_digit b) (list_all is_ascii_digit bytes) all in
    ap (λ (l : List ℕ). l ++ escape_octets is_pchar bytes) (octet_plain b (digit_plain b both.0)) ∙ ap (λ (l : List ℕ). b ∷ l) (digits_plain bytes both.1)

home_letters : (home : Home) → IsAscii (home_text home)
home_letters Global = word_letters (codes "/global/") refl
home_letters (User xui) =
    IsAscii-append (codes "/users/") (escape_part xui ++ codes "/") (word_letters (codes "/users/") refl)
    (IsAscii-append (escape_part xui) (codes "/") (part_letters xui) (word_letters (codes "/") refl))

id_letters : (doc : DocId) → IsAscii (id_text doc)
id_letters doc =
    IsAscii-append (auid_text doc.auid) (home_text doc.home ++ escape_part doc.name) (auid_letters doc.auid)
    (IsAscii-append (home_text doc.home) (escape_part doc.name) (home_letters doc.home) (part_letters doc.name))

path_letters : (tag : List ℕ) (doc : DocId) → IsAscii (feed_path tag doc)
path_letters tag doc =
    IsAscii-append (codes "~feed/aggregate/") (escape_part tag ++ (codes "/" ++ id_text doc)) (word_letters (codes "~feed/aggregate/") refl)
    (IsAscii-append (escape_part tag) (codes "/" ++ id_text doc) (part_letters tag) (IsAscii-append (codes "/") (id_text doc) (word_letters (codes "/") refl) (id_letters doc)))

-- ---- the addresses

module _ (root : List ℕ) (is : IsRoot root (authority_of root) (path_of root)) where
  path_octets : encode_utf8_all (path_of root) ≡ path_of root
  path_octets = visible_utf8 (path_of root) (root_path_visible root (authority_of root) (path_of root) is)

  begins : (cs : List ℕ) × (root ≡ 104 ∷ cs)
  begins = by is.scheme_is
    where
      by : (is.scheme ≡ codes "http://") ⊎ (is.scheme ≡ codes "https://") → (cs : List ℕ) × (root ≡ 104 ∷ cs)
      by (inl e) = (codes "ttp://" ++ (authority_of root ++ path_of root), is.joined ∙ ap (λ (l : List ℕ). l ++ (authority_of root ++ path_of root)) e)
      by (inr e) = (codes "ttps://" ++ (authority_of root ++ path_of root), is.joined ∙ ap (λ (l : List ℕ). l ++ (authority_of root ++ path_of root)) e)

  under_path : (rest : List ℕ) → rest_under_root root (path_of root ++ (slash ∷ rest)) ≡ Some rest
  under_path rest =
      let first = begins in
      let slashed = path_begins (drop 3 (pieces slash root)) rest in
      rw (outside root (path_of root ++ (slash ∷ rest)) first.0 slashed.0 first.1 slashed.1, rest_inside (path_of root) rest) refl

  pub document_asked : (user : Option (List ℕ)) (doc : DocId) → IsTargetResult root (path_of root ++ (slash ∷ id_text doc)) (Ok (Document doc)) → IsTargetResult root (target_of root (get_ask user (id_text doc))) (Ok (Document doc))
  document_asked user doc means = subst (λ (t : List ℕ). IsTargetResult root t (Ok (Document doc))) (λ i. sym path_octets i ++ (slash ∷ sym (encodes-IsAscii (id_text doc) (id_letters doc)) i)) means

  module _ (n : ℕ) (doc : DocId) (some : 1 ≤ n) (small : n ≤ u64_max) where
    abbrev digits : List ℕ
    digits = encode_utf8_all (decimal n)

    abbrev behind : List ℕ
    behind = codes "~feed" ++ (slash ∷ (codes "aggregate" ++ (slash ∷ (digits ++ (slash ∷ id_text doc)))))

    is_tag : parse_tag (decimal n) ≡ Some n
    is_tag = ap numeral_of (octets n some small) ∙ printed_numeral n some small

    path_is : encode_utf8_all (feed_path (decimal n) doc) ≡ behind
    path_is =
        encodes-IsAscii (feed_path (decimal n) doc) (path_letters (decimal n) doc)
        ∙ ap (λ (d : List ℕ). codes "~feed/aggregate/" ++ (d ++ (codes "/" ++ id_text doc))) (digits_plain digits (ap (list_all is_ascii_digit) (octets n some small) ∙ numeral_digits (decimal n) n (printed_numeral n some small)))

    rest_means : IsTargetResult root (feed_address root Aggregate (decimal n) doc) (Ok (Feed Aggregate n doc)) → IsRestAnswer behind (Ok (Feed Aggregate n doc))
    rest_means means =
        let found = there (Feed Aggregate n doc) means in
        let under : rest_under_root root (feed_address root Aggregate (decimal n) doc) ≡ Some behind =
        ap (rest_under_root root) (regrouped root (codes "/~feed/") (mode_text Aggregate) (codes "/") digits (id_text doc)) ∙ under_itself root behind in
        let same : found.0 ≡ behind = same_rest (rest_under_root root (feed_address root Aggregate (decimal n) doc)) found.0 behind found.1 under in
        subst (λ (r : List ℕ). IsRestAnswer r (Ok (Feed Aggregate n doc))) same found.2

    pub feed_asked : (user : Option (List ℕ)) → (parse_tag (decimal n) ≡ Some n → IsTargetResult root (feed_address root Aggregate (decimal n) doc) (Ok (Feed Aggregate n doc)))
        → IsTargetResult root (target_of root (get_ask user (feed_path (decimal n) doc))) (Ok (Feed Aggregate n doc))
    feed_asked user means =
        subst (λ (t : List ℕ). IsTargetResult root t (Ok (Feed Aggregate n doc))) (λ i. sym path_octets i ++ (slash ∷ sym path_is i)) (inl (behind, under_path behind, rest_means (means is_tag)))
