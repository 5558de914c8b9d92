-- Frequent characters are raw in text.
use Rattle.std.proofs.Common.{◌≡◌, ℕ, ◌≤◌, ◌≢◌, Bool, true, false, ◌||◌, List, [], ◌∷◌, refl, sym, ap, ◌∙◌, arith}
use Rattle.std.specs.Prelude.{nat_eq, nat_le, not}
use Rattle.std.proofs.lemmas.Bool.{and_parts, eqb-true, leb-true, le-leb, ne_eqb, or_left, true≢false}
use Rattle.std.specs.Int.{is_in_range as within}
use Rattle.xml_grammar.specs.TextReading.{first_char_is}
use Rattle.xml_names.specs.Characters.{is_name_start, is_non_start_char, is_name_char}
use Rattle.xml_tokens.specs.Tokens.{is_raw_char}
use Rattle.xml_tokens.specs.readers.CharacterRuns.{is_frequent_raw_char, is_usual_content_char}

raw_between : (c : ℕ) → c ≢ 60 → 39 ≤ c → c ≤ 55295 → is_raw_char c ≡ true
raw_between c other low high =
    rw (ne_eqb c 9 (λ e. omega (arith, e, low)), ne_eqb c 10 (λ e. omega (arith, e, low)), ne_eqb c 13 (λ e. omega (arith, e, low)))
    (rw (le-leb 32 c (omega (arith, low)), le-leb c 55295 high)
    (rw (ne_eqb c 60 other, ne_eqb c 38 (λ e. omega (arith, e, low))) refl))

pub bounds : (low high c : ℕ) → within low high c ≡ true → (low ≤ c) × (c ≤ high)
bounds low high c h = let b = and_parts (nat_le low c) (nat_le c high) h in (leb-true low c b.0, leb-true c high b.1)

pub frequent_is_raw : (c : ℕ) → is_frequent_raw_char c ≡ true → is_raw_char c ≡ true
frequent_is_raw c h =
    let parts = and_parts (not (nat_eq c 60)) (within 39 55295 c) h in
    let b = bounds 39 55295 c parts.1 in
    raw_between c (λ e. true≢false (sym parts.0 ∙ ap (λ (z : ℕ). not (nat_eq z 60)) e)) b.0 b.1

-- characters that are raw in content whatever surrounds them
inner_by : (c : ℕ) (a d e : Bool) → within 94 55295 c ≡ a → nat_eq c 32 ≡ d → nat_eq c 10 ≡ e → ((a || d) || e) ≡ true → (is_raw_char c ≡ true) × (nat_eq 93 c ≡ false)
inner_by c true d e i j k h =
    let b = bounds 94 55295 c i in
    let low : 94 ≤ c = b.0 in
    (raw_between c (λ o. omega (arith, o, low)) (omega (arith, low)) b.1, ne_eqb 93 c (λ o. omega (arith, o, low)))
inner_by c false true e i j k h = let z = eqb-true c 32 j in rw z (refl, refl)
inner_by c false false true i j k h = let z = eqb-true c 10 k in rw z (refl, refl)
inner_by c false false false i j k h = absurd cc

inner : (c : ℕ) → is_usual_content_char c ≡ true → (is_raw_char c ≡ true) × (nat_eq 93 c ≡ false)
inner c h = inner_by c (within 94 55295 c) (nat_eq c 32) (nat_eq c 10) refl refl refl h

pub usual_is_raw : (c : ℕ) → is_usual_content_char c ≡ true → is_raw_char c ≡ true
usual_is_raw c h = (inner c h).0

pub usual_no_bracket : (c : ℕ) → is_usual_content_char c ≡ true → nat_eq 93 c ≡ false
usual_no_bracket c h = (inner c h).1

-- names begin with lower-case letters, which they may also contain
small_begins_name : (c : ℕ) → within 97 122 c ≡ true → is_name_start c ≡ true
small_begins_name c h = rw h (rw (by (within 65 90 c) (nat_eq c 95)) refl)
  where
    by : (a b : Bool) → ((a || b) || true) ≡ true
    by true b = refl
    by false true = refl
    by false false = refl

pub small_first : (text : List ℕ) → first_char_is (within 97 122) text ≡ true → first_char_is is_name_start text ≡ true
small_first [] h = absurd cc
small_first (c ∷ cs) h = small_begins_name c h

pub small_in_name : (c : ℕ) → within 97 122 c ≡ true → is_name_char c ≡ true
small_in_name c h = or_left (is_name_start c) (is_non_start_char c) (small_begins_name c h)
