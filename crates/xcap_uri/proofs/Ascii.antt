-- Texts of ASCII: words, and roots with their paths.
use Rattle.std.proofs.Common.{◌≡◌, ◌⊎◌, inl, inr, ℕ, Bool, true, false, ◌==◌, List, [], ◌∷◌, ◌++◌, codes, drop, refl, ap, ◌∙◌, sym, arith}
use Rattle.std.proofs.lemmas.Bool.{and_parts, and_from, eqb-true}
use Rattle.std.proofs.lemmas.Bool.Decides.{nat_tests}
use Rattle.std.proofs.lemmas.Str.{encodes-chars, encodes-IsAscii}
use Rattle.std.specs.Char.{is_ascii}
use Rattle.std.specs.List.{list_all, onto_first as with_first}
use Rattle.std.specs.Str.{IsAscii, IsUtf8, chars}
use lib.Utf8.{encodes}
use Rattle.doc_names.proofs.Words.{word_letters}
use Rattle.xcap_uri.specs.Delimiters.{pieces}
use Rattle.xcap_uri.specs.Roots.{slash, is_authority_char, is_segment_char, is_one_or_more, path_of_segments, path_of, is_root_text as is_root}
use Rattle.xcap_uri.proofs.RootAnswers.{Parts, root_parts}

-- the octets of a text of ASCII
pub octets_are : (octets text : List ℕ) → IsUtf8 octets → chars octets ≡ text → IsAscii text → octets ≡ text
octets_are octets text utf8 e ascii = sym (encodes-chars octets utf8) ∙ ap encodes e ∙ encodes-IsAscii text ascii

-- ---- the characters of roots

authority_char : (c : ℕ) → is_authority_char c ≡ true → is_ascii c ≡ true
authority_char c h = grind (arith, nat_tests)

segment_char : (c : ℕ) → is_segment_char c ≡ true → is_ascii c ≡ true
segment_char c h = grind (arith, nat_tests)

some_letters : (p : ℕ → Bool) → ((c : ℕ) → p c ≡ true → is_ascii c ≡ true) → (piece : List ℕ) → is_one_or_more p piece ≡ true → list_all is_ascii piece ≡ true
some_letters p small [] h = refl
some_letters p small (c ∷ cs) h = let both = and_parts (p c) (list_all p cs) h in and_from _ _ (small c both.0) (all_letters cs both.1)
  where
    all_letters : (cs : List ℕ) → list_all p cs ≡ true → list_all is_ascii cs ≡ true
    all_letters [] h = refl
    all_letters (c ∷ cs) h = let both = and_parts (p c) (list_all p cs) h in and_from _ _ (small c both.0) (all_letters cs both.1)

segments_letters : (ps : List (List ℕ)) → list_all (is_one_or_more is_segment_char) ps ≡ true → list_all (list_all is_ascii) ps ≡ true
segments_letters [] h = refl
segments_letters (p ∷ ps) h =
    let both = and_parts (is_one_or_more is_segment_char p) (list_all (is_one_or_more is_segment_char) ps) h in
    and_from _ _ (some_letters is_segment_char segment_char p both.0) (segments_letters ps both.1)

-- the scheme of a root
scheme_letters : (s : List ℕ) → (s ≡ codes "http:") ⊎ (s ≡ codes "https:") → list_all is_ascii s ≡ true
scheme_letters s (inl e) = ap (list_all is_ascii) e
scheme_letters s (inr e) = ap (list_all is_ascii) e

pieces_letters : (ps : List (List ℕ)) → Parts ps → list_all (list_all is_ascii) ps ≡ true
pieces_letters ps h =
    ap (list_all (list_all is_ascii)) h.parts_are
    ∙ and_from _ _ (scheme_letters h.scheme h.scheme_is) (and_from _ _ (some_letters is_authority_char authority_char h.authority h.authority_is) (segments_letters h.segments h.segments_are))

-- ---- pieces, and the text that they are cut from

with_first_letters : (b : ℕ) (ps : List (List ℕ)) → list_all (list_all is_ascii) (with_first b ps) ≡ true → (is_ascii b ≡ true) × (list_all (list_all is_ascii) ps ≡ true)
with_first_letters b [] h = let both = and_parts (list_all is_ascii (b ∷ [])) true h in ((and_parts (is_ascii b) true both.0).0, refl)
with_first_letters b (p ∷ ps) h =
    let both = and_parts (list_all is_ascii (b ∷ p)) (list_all (list_all is_ascii) ps) h in
    let front = and_parts (is_ascii b) (list_all is_ascii p) both.0 in
    (front.0, and_from _ _ front.1 both.1)

one_more : (b : ℕ) (bs : List ℕ) (t : Bool) → (b == slash) ≡ t → (list_all (list_all is_ascii) (pieces slash bs) ≡ true → list_all is_ascii bs ≡ true) → list_all (list_all is_ascii) (pieces slash (b ∷ bs)) ≡ true → list_all is_ascii (b ∷ bs) ≡ true
one_more b bs true e more h = and_from _ _ (ap is_ascii (eqb-true b slash e)) (more (rw e at h))
one_more b bs false e more h = let both = with_first_letters b (pieces slash bs) (rw e at h) in and_from _ _ both.0 (more both.1)

joined_letters : (text : List ℕ) → list_all (list_all is_ascii) (pieces slash text) ≡ true → list_all is_ascii text ≡ true
joined_letters [] h = refl
joined_letters (b ∷ bs) h = one_more b bs (b == slash) refl (joined_letters bs) h

-- ---- the whole, and the path

pub root_letters : (text : List ℕ) → is_root text ≡ true → IsAscii text
root_letters text is = word_letters text (joined_letters text (pieces_letters (pieces slash text) (root_parts text is)))

append_letters : (xs ys : List ℕ) → list_all is_ascii xs ≡ true → list_all is_ascii ys ≡ true → list_all is_ascii (xs ++ ys) ≡ true
append_letters [] ys h k = k
append_letters (c ∷ cs) ys h k = let both = and_parts (is_ascii c) (list_all is_ascii cs) h in and_from _ _ both.0 (append_letters cs ys both.1 k)

in_path_letters : (ps : List (List ℕ)) → list_all (list_all is_ascii) ps ≡ true → list_all is_ascii (path_of_segments ps) ≡ true
in_path_letters [] h = refl
in_path_letters (p ∷ ps) h = let both = and_parts (list_all is_ascii p) (list_all (list_all is_ascii) ps) h in append_letters p (path_of_segments ps) both.0 (in_path_letters ps both.1)

pub path_letters : (text : List ℕ) → is_root text ≡ true → IsAscii (path_of text)
path_letters text is =
    let h = root_parts text is in
    word_letters (path_of text) (ap (λ (ps : List (List ℕ)). list_all is_ascii (path_of_segments (drop 3 ps))) h.parts_are ∙ in_path_letters h.segments (segments_letters h.segments h.segments_are))
