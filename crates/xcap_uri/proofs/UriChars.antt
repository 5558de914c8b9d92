-- What each character of a URI is, by what follows it.
use Rattle.std.proofs.Common.{◌≡◌, ◌≢◌, ℕ, ◌+◌, ◌-◌, ◌≤◌, true, List, [], ◌∷◌, Ok, Err, length, get_or, take, drop, refl, ap, ◌∙◌, sym, arith}
use Rattle.std.proofs.lemmas.Bool.{cond-true, ne_eqb}
use Rattle.xml_tokens.proofs.RunLemmas.{rest_of_drop}
use Rattle.xml_names.specs.declared.read_error.ReadError.TheVariants.{Fault}
use Rattle.xcap_uri.specs.Queries.{is_bracket_or_caret}
use Rattle.xcap_uri.specs.readers.Queries.{parse_uri_chars, with_char}
use Rattle.xcap_uri.specs.declared.fault.UriFault.TheVariants.{BadQuery}

-- a `^` and what it escapes
pub escapes : (open_count c : ℕ) (rest : List ℕ) → 1 ≤ length rest → c ≡ get_or rest 0 c → is_bracket_or_caret c ≡ true → parse_uri_chars open_count (94 ∷ rest) ≡ with_char c (parse_uri_chars open_count (take (length rest - 1) (drop 1 rest)))
escapes open_count c [] some e h = absurd (omega arith)
escapes open_count c (d ∷ rest) some e h =
    cond-true (is_bracket_or_caret d) (with_char d (parse_uri_chars open_count rest)) (Err (Fault BadQuery)) (ap is_bracket_or_caret (sym e) ∙ h)
    ∙ ap (λ x. with_char x (parse_uri_chars open_count rest)) (sym e)
    ∙ ap (λ (l : List ℕ). with_char c (parse_uri_chars open_count l)) (sym (rest_of_drop 1 (d ∷ rest)))

-- a `(`
pub opens : (open_count c : ℕ) (rest : List ℕ) → c ≡ 40 → parse_uri_chars open_count (c ∷ rest) ≡ with_char c (parse_uri_chars (open_count + 1) rest)
opens open_count c [] e = rw e refl
opens open_count c (d ∷ rest) e = rw e refl

-- a `)` that closes another bracket, and the last one
pub closes : (open_count : ℕ) (rest : List ℕ) → open_count ≢ 0 → parse_uri_chars open_count (41 ∷ rest) ≡ with_char 41 (parse_uri_chars (open_count - 1) rest)
closes open_count [] some = rw (ne_eqb open_count 0 some) refl
closes open_count (d ∷ rest) some = rw (ne_eqb open_count 0 some) refl

pub ends : (open_count : ℕ) (rest : List ℕ) → open_count ≡ 0 → parse_uri_chars open_count (41 ∷ rest) ≡ Ok ([], rest)
ends open_count [] e = rw e refl
ends open_count (d ∷ rest) e = rw e refl

-- any other character
pub goes_on : (open_count c : ℕ) (rest : List ℕ) → c ≢ 94 → c ≢ 40 → c ≢ 41 → parse_uri_chars open_count (c ∷ rest) ≡ with_char c (parse_uri_chars open_count rest)
goes_on open_count c [] a b d = rw (ne_eqb c 41 d) refl
goes_on open_count c (e ∷ rest) a b d = rw (ne_eqb c 94 a, ne_eqb c 40 b, ne_eqb c 41 d) refl
