-- A text is a root by its pieces as it is by the grammar, and as the code reads it.
use Rattle.std.proofs.Common.{◌≡◌, ◌↔◌, ◌⊎◌, inl, inr, ⊎_elim, ℕ, ◌≤◌, Bool, true, false, not, ◌&&◌, ◌||◌, ◌==◌, nat_le, List, [], ◌∷◌, ◌++◌, codes, length, drop, Option, None, Some, refl, ap, ◌∙◌, sym, append_assoc}
use Rattle.std.proofs.lemmas.Bool.{and_parts, and_from, eqb-true, le-leb, leb-true, true≢false}
use Rattle.std.proofs.lemmas.List.{append-nil}
use Rattle.std.specs.Cmp.Lexicographic.{bytes_decides}
use Rattle.std.specs.List.{list_all, join_with_byte as joined}
use Rattle.std.specs.Option.{option_or}
use Rattle.std.specs.Str.{bytes_eq}
use Rattle.xml_tokens.specs.Tokens.{is_different_char}
use Rattle.xml_grammar.specs.TextReading.{drop_while}
use Rattle.xml_grammar.specs.Rules.{AllPass}
use Rattle.xcap_uri.specs.Delimiters.{rest_after_front, front_before, rest_after, pieces}
use Rattle.xcap_uri.specs.Roots.{slash, is_authority_char, is_segment_char, is_one_or_more, path_of_segments, IsRoot, is_scheme, are_root_parts, third_piece, authority_of, path_of, is_root_text as is_root}
use Rattle.xcap_uri.specs.readers.Roots.{strip_scheme, are_authority_and_segments, is_root_after_scheme, reads_as_root}
use Rattle.xcap_uri.proofs.Pieces.{on_test, pieces_behind, pieces_cut, pieces_one, pieces_more, after_append, front_there}
use Rattle.xcap_uri.proofs.SegmentLemmas.{joined_pieces}

-- ---- the parts of a root

pub record Parts (ps : List (List ℕ)) : Type 0 where
  pub scheme : List ℕ
  pub authority : List ℕ
  pub segments : List (List ℕ)
  pub parts_are : ps ≡ scheme ∷ [] ∷ authority ∷ segments
  pub scheme_is : (scheme ≡ codes "http:") ⊎ (scheme ≡ codes "https:")
  pub authority_is : is_one_or_more is_authority_char authority ≡ true
  pub segments_are : list_all (is_one_or_more is_segment_char) segments ≡ true

either_true : (a b : Bool) → a || b ≡ true → (a ≡ true) ⊎ (b ≡ true)
either_true true b h = inl refl
either_true false b h = inr h

scheme_of : (s : List ℕ) → is_scheme s ≡ true → (s ≡ codes "http:") ⊎ (s ≡ codes "https:")
scheme_of s h = ⊎_elim
    (λ e. inl ((bytes_decides s (codes "http:")).0 e))
    (λ e. inr ((bytes_decides s (codes "https:")).0 e))
    (either_true (bytes_eq s (codes "http:")) (bytes_eq s (codes "https:")) h)

pub parts : (ps : List (List ℕ)) → are_root_parts ps ≡ true → Parts ps
parts [] h = absurd cc
parts (s ∷ []) h = absurd cc
parts (s ∷ [] ∷ []) h = absurd cc
parts (s ∷ (c ∷ cs) ∷ ps) h = absurd cc
parts (s ∷ [] ∷ a ∷ ps) h =
    let all = and_parts (is_scheme s && is_one_or_more is_authority_char a) (list_all (is_one_or_more is_segment_char) ps) h in
    let front = and_parts (is_scheme s) (is_one_or_more is_authority_char a) all.0 in
    record { scheme = s; authority = a; segments = ps; parts_are = refl; scheme_is = scheme_of s front.0; authority_is = front.1; segments_are = all.1 }

pub root_parts : (text : List ℕ) → is_root text ≡ true → Parts (pieces slash text)
root_parts text is = parts (pieces slash text) (and_parts (nat_le (length text) 256) (are_root_parts (pieces slash text)) is).1

-- pieces with a slash before each
slashed : (p : List ℕ) (ps : List (List ℕ)) → joined slash (p ∷ ps) ≡ p ++ path_of_segments ps
slashed p [] = sym (append-nil p)
slashed p (q ∷ ps) = ap (λ (l : List ℕ). p ++ (slash ∷ l)) (slashed q ps)

-- a text by its parts
spelled : (text : List ℕ) (h : Parts (pieces slash text)) → text ≡ h.scheme ++ (slash ∷ slash ∷ (h.authority ++ path_of_segments h.segments))
spelled text h =
    sym (joined_pieces slash text)
    ∙ ap (joined slash) h.parts_are
    ∙ ap (λ (l : List ℕ). h.scheme ++ (slash ∷ slash ∷ l)) (slashed h.authority h.segments)

pub root_begins : (text : List ℕ) → is_root text ≡ true → (cs : List ℕ) × (text ≡ 104 ∷ cs)
root_begins text is =
    let h = root_parts text is in
    let rest = slash ∷ slash ∷ (h.authority ++ path_of_segments h.segments) in
    ⊎_elim
    (λ e. (codes "ttp:" ++ rest, spelled text h ∙ ap (λ (l : List ℕ). l ++ rest) e))
    (λ e. (codes "ttps:" ++ rest, spelled text h ∙ ap (λ (l : List ℕ). l ++ rest) e))
    h.scheme_is

-- ---- after the scheme

-- the pieces of what the code reads
record Behind (text rest : List ℕ) : Type 0 where
  pub scheme : List ℕ
  pub is : is_scheme scheme ≡ true
  pub cut : pieces slash text ≡ scheme ∷ [] ∷ pieces slash rest

behind_http : (text rest : List ℕ) → text ≡ codes "http://" ++ rest → Behind text rest
behind_http text rest e = record { scheme = codes "http:"; is = refl; cut = ap (pieces slash) e }

behind_https : (text rest : List ℕ) → text ≡ codes "https://" ++ rest → Behind text rest
behind_https text rest e = record { scheme = codes "https:"; is = refl; cut = ap (pieces slash) e }

by_scheme : (text rest : List ℕ) (first second : Option (List ℕ)) → rest_after_front (codes "http://") text ≡ first → rest_after_front (codes "https://") text ≡ second → option_or first second ≡ Some rest → Behind text rest
by_scheme text rest (Some x) second e f h = behind_http text rest (front_there (codes "http://") text rest (e ∙ h))
by_scheme text rest None (Some x) e f h = behind_https text rest (front_there (codes "https://") text rest (f ∙ h))
by_scheme text rest None None e f h = absurd cc

cut_behind : (text rest : List ℕ) → strip_scheme text ≡ Some rest → Behind text rest
cut_behind text rest e = by_scheme text rest (rest_after_front (codes "http://") text) (rest_after_front (codes "https://") text) refl refl e

-- the code finds a scheme at the front of each root
some_or : (first second : Option (List ℕ)) (x : List ℕ) → second ≡ Some x → option_or first second ≡ None → ⊥
some_or (Some y) second x e h = cc
some_or None second x e h = let i : Some x ≡ None = sym e ∙ h in cc

not_behind : (text : List ℕ) → Parts (pieces slash text) → strip_scheme text ≡ None → ⊥
not_behind text h none =
    let rest = h.authority ++ path_of_segments h.segments in
    ⊎_elim
    (λ e.
    let there : rest_after_front (codes "http://") text ≡ Some rest = ap (rest_after_front (codes "http://")) (spelled text h ∙ ap (λ (l : List ℕ). l ++ (slash ∷ slash ∷ rest)) e) ∙ after_append (codes "http://") rest in
    let never : Some rest ≡ None = sym (ap (λ (o : Option (List ℕ)). option_or o (rest_after_front (codes "https://") text)) there) ∙ none in
    cc)
    (λ e.
    let there : rest_after_front (codes "https://") text ≡ Some rest = ap (rest_after_front (codes "https://")) (spelled text h ∙ ap (λ (l : List ℕ). l ++ (slash ∷ slash ∷ rest)) e) ∙ after_append (codes "https://") rest in
    some_or (rest_after_front (codes "http://") text) (rest_after_front (codes "https://") text) rest there none)
    h.scheme_is

-- what is found after the scheme is tested as the pieces are
judged : (s : List ℕ) (ps : List (List ℕ)) → is_scheme s ≡ true → are_root_parts (s ∷ [] ∷ ps) ≡ are_authority_and_segments ps
judged s [] h = refl
judged s (a ∷ ps) h = rw h refl

same_form : (text : List ℕ) (found : Option (List ℕ)) → strip_scheme text ≡ found → are_root_parts (pieces slash text) ≡ is_root_after_scheme found
same_form text None e = on_test (are_root_parts (pieces slash text)) (λ t. absurd (not_behind text (parts (pieces slash text) t) e)) (λ f. f)
same_form text (Some rest) e = let b = cut_behind text rest e in ap are_root_parts b.cut ∙ judged b.scheme (pieces slash rest) b.is

-- A text is a root as the code reads it.
pub read_as_root : (text : List ℕ) → is_root text ≡ reads_as_root text
read_as_root text = ap (λ (b : Bool). nat_le (length text) 256 && b) (same_form text (strip_scheme text) refl)

pub no_root : (text : List ℕ) → strip_scheme text ≡ None → is_root text ≡ false
no_root text e = ap (λ (b : Bool). nat_le (length text) 256 && b) (same_form text None e) ∙ and_false (nat_le (length text) 256)
  where
    and_false : (b : Bool) → b && false ≡ false
    and_false true = refl
    and_false false = refl

pub some_root : (text rest : List ℕ) → strip_scheme text ≡ Some rest → length text ≤ 256 → are_authority_and_segments (pieces slash rest) ≡ true → is_root text ≡ true
some_root text rest e short form = and_from _ _ (le-leb (length text) 256 short) (same_form text (Some rest) e ∙ form)

pub authority_behind : (text rest : List ℕ) → strip_scheme text ≡ Some rest → authority_of text ≡ front_before slash rest
authority_behind text rest e = let b = cut_behind text rest e in ap third_piece (b.cut ∙ ap (λ (ps : List (List ℕ)). b.scheme ∷ [] ∷ ps) (pieces_cut slash rest))

-- the path begins at the first slash
slashed_behind : (text : List ℕ) → path_of_segments (pieces slash text) ≡ slash ∷ text
slashed_behind text = ap path_of_segments (pieces_cut slash text) ∙ ap (λ (l : List ℕ). slash ∷ l) (sym (slashed (front_before slash text) (pieces_behind slash (rest_after slash text))) ∙ ap (joined slash) (sym (pieces_cut slash text)) ∙ joined_pieces slash text)

tail_behind : (rest : List ℕ) → path_of_segments (pieces_behind slash (rest_after slash rest)) ≡ drop_while (is_different_char slash) rest
tail_behind [] = refl
tail_behind (c ∷ cs) =
    on_test (c == slash)
    (λ t. rw t (slashed_behind cs ∙ ap (λ (x : ℕ). x ∷ cs) (sym (eqb-true c slash t))))
    (λ f. rw f (tail_behind cs))

pub path_behind : (text rest : List ℕ) → strip_scheme text ≡ Some rest → path_of text ≡ drop_while (is_different_char slash) rest
path_behind text rest e =
    let b = cut_behind text rest e in
    ap (λ (ps : List (List ℕ)). path_of_segments (drop 3 ps)) (b.cut ∙ ap (λ (ps : List (List ℕ)). b.scheme ∷ [] ∷ ps) (pieces_cut slash rest))
    ∙ tail_behind rest

-- ---- by the grammar

-- no slash is a character of an authority or of a segment
apart : (p : ℕ → Bool) → p slash ≡ false → (c : ℕ) → p c ≡ true → is_different_char slash c ≡ true
apart p none c h = on_test (c == slash) (λ t. absurd (true≢false (sym h ∙ ap p (eqb-true c slash t) ∙ none))) (λ f. ap not f)

all_apart : (p : ℕ → Bool) → p slash ≡ false → (cs : List ℕ) → list_all p cs ≡ true → AllPass (is_different_char slash) cs
all_apart p none [] h = tt
all_apart p none (c ∷ cs) h = let both = and_parts (p c) (list_all p cs) h in (apart p none c both.0, all_apart p none cs both.1)

some_apart : (p : ℕ → Bool) → p slash ≡ false → (cs : List ℕ) → is_one_or_more p cs ≡ true → AllPass (is_different_char slash) cs
some_apart p none [] h = absurd cc
some_apart p none (c ∷ cs) h = all_apart p none (c ∷ cs) h

cut_path : (a : List ℕ) (segments : List (List ℕ)) → AllPass (is_different_char slash) a → list_all (is_one_or_more is_segment_char) segments ≡ true → pieces slash (a ++ path_of_segments segments) ≡ a ∷ segments
cut_path a [] h k = ap (pieces slash) (append-nil a) ∙ pieces_one slash a h
cut_path a (s ∷ ss) h k =
    let both = and_parts (is_one_or_more is_segment_char s) (list_all (is_one_or_more is_segment_char) ss) k in
    pieces_more slash a (s ++ path_of_segments ss) h ∙ ap (λ (ps : List (List ℕ)). a ∷ ps) (cut_path s ss (some_apart is_segment_char refl s both.0) both.1)

-- the pieces of a root of the grammar
scheme_behind : (text rest scheme : List ℕ) → text ≡ scheme ++ rest → (scheme ≡ codes "http://") ⊎ (scheme ≡ codes "https://") → Behind text rest
scheme_behind text rest scheme j (inl e) = behind_http text rest (j ∙ ap (λ (l : List ℕ). l ++ rest) e)
scheme_behind text rest scheme j (inr e) = behind_https text rest (j ∙ ap (λ (l : List ℕ). l ++ rest) e)

module _ (text authority path : List ℕ) where
  abbrev IsThis : Type 0
  IsThis = (is_root text ≡ true) × (authority ≡ authority_of text) × (path ≡ path_of text)

  by_pieces : IsRoot text authority path → IsThis
  by_pieces r =
      let b = scheme_behind text (authority ++ path) r.scheme r.joined r.scheme_is in
      let cut : pieces slash text ≡ b.scheme ∷ [] ∷ authority ∷ r.segments = b.cut ∙ ap (λ (ps : List (List ℕ)). b.scheme ∷ [] ∷ ps) (ap (λ (l : List ℕ). pieces slash (authority ++ l)) r.path_is ∙ cut_path authority r.segments (some_apart is_authority_char refl authority r.authority_is) r.segments_are) in (
        and_from _ _ (le-leb (length text) 256 r.short) (ap are_root_parts cut ∙ and_from _ _ (and_from _ _ b.is r.authority_is) r.segments_are),
        sym (ap third_piece cut),
        r.path_is ∙ sym (ap (λ (ps : List (List ℕ)). path_of_segments (drop 3 ps)) cut),
      )

  with_slashes : (s : List ℕ) → (s ≡ codes "http:") ⊎ (s ≡ codes "https:") → (s ++ (slash ∷ slash ∷ []) ≡ codes "http://") ⊎ (s ++ (slash ∷ slash ∷ []) ≡ codes "https://")
  with_slashes s (inl e) = inl (ap (λ (l : List ℕ). l ++ (slash ∷ slash ∷ [])) e)
  with_slashes s (inr e) = inr (ap (λ (l : List ℕ). l ++ (slash ∷ slash ∷ [])) e)

  by_grammar : IsThis → IsRoot text authority path
  by_grammar (is, e, f) =
      let h = root_parts text is in
      let is_authority : authority ≡ h.authority = e ∙ ap third_piece h.parts_are in
      let is_path : path ≡ path_of_segments h.segments = f ∙ ap (λ (ps : List (List ℕ)). path_of_segments (drop 3 ps)) h.parts_are in
      record {
        scheme = h.scheme ++ (slash ∷ slash ∷ []);
        segments = h.segments;
        joined =
            spelled text h
            ∙ sym (append_assoc h.scheme (slash ∷ slash ∷ []) (h.authority ++ path_of_segments h.segments))
            ∙ ap (λ (l : List ℕ). (h.scheme ++ (slash ∷ slash ∷ [])) ++ (l ++ path_of_segments h.segments)) (sym is_authority)
            ∙ ap (λ (l : List ℕ). (h.scheme ++ (slash ∷ slash ∷ [])) ++ (authority ++ l)) (sym is_path);
        scheme_is = with_slashes h.scheme h.scheme_is;
        authority_is = ap (is_one_or_more is_authority_char) is_authority ∙ h.authority_is;
        path_is = is_path;
        segments_are = h.segments_are;
        short = leb-true (length text) 256 (and_parts (nat_le (length text) 256) (are_root_parts (pieces slash text)) is).0;
      }

  pub by_either : IsRoot text authority path ↔ ((is_root text ≡ true) × (authority ≡ authority_of text) × (path ≡ path_of text))
  by_either = (by_pieces, by_grammar)
