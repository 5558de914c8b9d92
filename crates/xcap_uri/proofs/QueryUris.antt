-- The URI of an item is what its spelling stands for.
use Rattle.std.proofs.Common.{◌≡◌, ◌≢◌, ℕ, zero, suc, ◌+◌, ◌-◌, true, false, ◌==◌, List, [], ◌∷◌, ◌++◌, Result, Ok, Err, refl, ap, ◌∙◌, sym, subst, append_assoc, arith}
use Rattle.std.proofs.lemmas.Bool.{cond-true, cond-false, eqb-true, eqb-false, true≢false}
use Rattle.xml_names.specs.declared.read_error.ReadError.TheVariants.{Fault}
use Rattle.xcap_uri.specs.readers.Steps.{UriError}
use Rattle.xcap_uri.specs.Queries.{is_bracket_or_caret, SpellsUri, ends, plain, escaped, nested}
use Rattle.xcap_uri.specs.readers.Queries.{ReadResult, parse_uri_chars, with_char}
use Rattle.xcap_uri.specs.readers.UriSteps.{with_chars}
use Rattle.xcap_uri.specs.declared.fault.UriFault.TheVariants.{BadQuery}
use Rattle.xcap_uri.proofs.Bindings.{no_char_yet}
use Rattle.xcap_uri.proofs.Pieces.{on_test}
use Rattle.xcap_uri.proofs.UriChars as chars

-- what is read is one value, and no fault
pub same_read : {A : Type 0} (x y : A × List ℕ) → (let r : ReadResult A = Ok x in r ≡ Ok y) → x ≡ y
same_read x y e = cc

pub no_fault : {A : Type 0} (fault : UriError) (y : A) → (let r : Result A UriError = Err fault in r ≡ Ok y) → ⊥
no_fault fault y e = absurd cc

-- a character that isn't special differs from each special one
no_special : (c d : ℕ) → is_bracket_or_caret d ≡ true → is_bracket_or_caret c ≡ false → c ≢ d
no_special c d is h e = true≢false (sym is ∙ ap is_bracket_or_caret (sym e) ∙ h)

-- ---- what is spelled is read

one_more : (c : ℕ) (u : List ℕ) (read : ReadResult (List ℕ)) → with_char c (with_chars u read) ≡ with_chars (c ∷ u) read
one_more c u (Ok x) = refl
one_more c u (Err e) = refl

in_brackets : (u v : List ℕ) (read : ReadResult (List ℕ)) → with_char 40 (with_chars u (with_char 41 (with_chars v read))) ≡ with_chars (40 ∷ (u ++ (41 ∷ v))) read
in_brackets u v (Ok x) = ap (λ (l : List ℕ). let z : List ℕ × List ℕ = (40 ∷ l, x.1) in let r : ReadResult (List ℕ) = Ok z in r) (sym (append_assoc u (41 ∷ v) x.0))
in_brackets u v (Err e) = refl

closed : (n : ℕ) (rest : List ℕ) → parse_uri_chars (n + 1) (41 ∷ rest) ≡ with_char 41 (parse_uri_chars n rest)
closed n rest = let k : n + 1 - 1 ≡ n = omega arith in chars.closes (n + 1) rest (omega arith) ∙ ap (λ (m : ℕ). with_char 41 (parse_uri_chars m rest)) k

pub read_on : (text uri : List ℕ) → SpellsUri text uri → (n : ℕ) (w : List ℕ) → parse_uri_chars n (text ++ w) ≡ with_chars uri (parse_uri_chars n w)
read_on text uri ends n w = no_char_yet (parse_uri_chars n w)
read_on text uri (plain c t u is s) n w =
    chars.goes_on n c (t ++ w) (no_special c 94 refl is) (no_special c 40 refl is) (no_special c 41 refl is)
    ∙ ap (with_char c) (read_on t u s n w)
    ∙ one_more c u (parse_uri_chars n w)
read_on text uri (escaped c t u is s) n w =
    cond-true (is_bracket_or_caret c) (with_char c (parse_uri_chars n (t ++ w))) (Err (Fault BadQuery)) is
    ∙ ap (with_char c) (read_on t u s n w)
    ∙ one_more c u (parse_uri_chars n w)
read_on text uri (nested inner inside t u s r) n w =
    chars.opens n 40 ((inner ++ (41 ∷ t)) ++ w) refl
    ∙ ap (λ (l : List ℕ). with_char 40 (parse_uri_chars (n + 1) l)) (append_assoc inner (41 ∷ t) w)
    ∙ ap (with_char 40) (read_on inner inside s (n + 1) (41 ∷ (t ++ w)) ∙ ap (with_chars inside) (closed n (t ++ w) ∙ ap (with_char 41) (read_on t u r n w)))
    ∙ in_brackets inside u (parse_uri_chars n w)

-- ---- what is read is spelled

-- a spelling, where n earlier `(` are open: each `)` that closes one is between two
abbrev Closes : ℕ → List ℕ → List ℕ → Type 0
Closes zero text uri = SpellsUri text uri
Closes (suc n) text uri =
    (front : List ℕ) × (before : List ℕ) × (back : List ℕ) × (behind : List ℕ) × (text ≡ front ++ (41 ∷ back)) × (uri ≡ before ++ (41 ∷ behind)) × SpellsUri front before × Closes n back behind

-- what may come before a spelling
abbrev Leads : List ℕ → List ℕ → Type 0
Leads front before = (text uri : List ℕ) → SpellsUri text uri → SpellsUri (front ++ text) (before ++ uri)

leads_on : (front before : List ℕ) → Leads front before → (n : ℕ) (text uri : List ℕ) → Closes n text uri → Closes n (front ++ text) (before ++ uri)
leads_on front before h zero text uri s = h text uri s
leads_on front before h (suc n) text uri (t, u, v, w, j, k, s, c) =
    (front ++ t, before ++ u, v, w, ap (λ (l : List ℕ). front ++ l) j ∙ sym (append_assoc front t (41 ∷ v)), ap (λ (l : List ℕ). before ++ l) k ∙ sym (append_assoc before u (41 ∷ w)), h t u s, c)

in_parentheses : (inner inside : List ℕ) → SpellsUri inner inside → Leads (40 ∷ (inner ++ (41 ∷ []))) (40 ∷ (inside ++ (41 ∷ [])))
in_parentheses inner inside s text uri r = rw (append_assoc inner (41 ∷ []) text, append_assoc inside (41 ∷ []) uri) (nested inner inside text uri s r)

opened : (n : ℕ) (text uri : List ℕ) → Closes (suc n) text uri → Closes n (40 ∷ text) (40 ∷ uri)
opened n text uri (t, u, v, w, j, k, s, c) =
    let led : Closes n ((40 ∷ (t ++ (41 ∷ []))) ++ v) ((40 ∷ (u ++ (41 ∷ []))) ++ w) = leads_on (40 ∷ (t ++ (41 ∷ []))) (40 ∷ (u ++ (41 ∷ []))) (in_parentheses t u s) n v w c in
    subst (λ (z : List ℕ). Closes n z (40 ∷ uri)) (ap (λ (l : List ℕ). 40 ∷ l) (append_assoc t (41 ∷ []) v ∙ sym j))
    (subst (λ (z : List ℕ). Closes n ((40 ∷ (t ++ (41 ∷ []))) ++ v) z) (ap (λ (l : List ℕ). 40 ∷ l) (append_assoc u (41 ∷ []) w ∙ sym k)) led)

-- what is found up to a `)`
record Found (n : ℕ) (text uri rest : List ℕ) : Type 0 where
  pub spelling : List ℕ
  pub joined : text ≡ spelling ++ (41 ∷ rest)
  pub closes : Closes n spelling uri

-- a character before what is read
record Behind (c : ℕ) (read : ReadResult (List ℕ)) (uri rest : List ℕ) : Type 0 where
  pub others : List ℕ
  pub read_is : read ≡ Ok (others, rest)
  pub uri_is : uri ≡ c ∷ others

behind : (c : ℕ) (read : ReadResult (List ℕ)) (uri rest : List ℕ) → with_char c read ≡ Ok (uri, rest) → Behind c read uri rest
behind c (Ok (u, v)) uri rest e =
    let pair = same_read (c ∷ u, v) (uri, rest) e in
    record { others = u; read_is = ap (λ (l : List ℕ). let z : List ℕ × List ℕ = (u, l) in let r : ReadResult (List ℕ) = Ok z in r) (ap (λ z. z.1) pair); uri_is = sym (ap (λ z. z.0) pair) }
behind c (Err x) uri rest e = absurd cc

-- a front before what is found after it
found_behind : (n : ℕ) (c : ℕ) (front text uri rest : List ℕ) (read : ReadResult (List ℕ)) → (b : Behind c read uri rest) → Leads front (c ∷ []) → Found n text b.others rest → Found n (front ++ text) uri rest
found_behind n c front text uri rest read b h f = record {
  spelling = front ++ f.spelling;
  joined = ap (λ (l : List ℕ). front ++ l) f.joined ∙ sym (append_assoc front f.spelling (41 ∷ rest));
  closes = subst (λ (z : List ℕ). Closes n (front ++ f.spelling) z) (sym b.uri_is) (leads_on front (c ∷ []) h n f.spelling b.others f.closes);
}

at_caret : (n c d : ℕ) (text uri rest : List ℕ) → c ≡ 94 → ((u : List ℕ) → parse_uri_chars n text ≡ Ok (u, rest) → Found n text u rest) → parse_uri_chars n (c ∷ d ∷ text) ≡ Ok (uri, rest) → Found n (c ∷ d ∷ text) uri rest
at_caret n c d text uri rest e h g =
    let here : parse_uri_chars n (94 ∷ d ∷ text) ≡ Ok (uri, rest) = ap (λ (x : ℕ). parse_uri_chars n (x ∷ d ∷ text)) (sym e) ∙ g in
    subst (λ (x : ℕ). Found n (x ∷ d ∷ text) uri rest) (sym e)
    (on_test (is_bracket_or_caret d)
    (λ t.
    let b = behind d (parse_uri_chars n text) uri rest (sym (cond-true (is_bracket_or_caret d) (with_char d (parse_uri_chars n text)) (Err (Fault BadQuery)) t) ∙ here) in
    found_behind n d (94 ∷ d ∷ []) text uri rest (parse_uri_chars n text) b (λ x u s. escaped d x u t s) (h b.others b.read_is))
    (λ t. absurd (no_fault (Fault BadQuery) (uri, rest) (sym (cond-false (is_bracket_or_caret d) (with_char d (parse_uri_chars n text)) (Err (Fault BadQuery)) t) ∙ here))))

at_open : (n : ℕ) (text uri rest : List ℕ) → ((m : ℕ) (u : List ℕ) → parse_uri_chars m text ≡ Ok (u, rest) → Found m text u rest) → parse_uri_chars n (40 ∷ text) ≡ Ok (uri, rest) → Found n (40 ∷ text) uri rest
at_open n text uri rest h g =
    let b = behind 40 (parse_uri_chars (n + 1) text) uri rest (sym (chars.opens n 40 text refl) ∙ g) in
    let f = h (n + 1) b.others b.read_is in
    let k : n + 1 ≡ suc n = omega arith in
    record {
      spelling = 40 ∷ f.spelling;
      joined = ap (λ (l : List ℕ). 40 ∷ l) f.joined;
      closes = subst (λ (z : List ℕ). Closes n (40 ∷ f.spelling) z) (sym b.uri_is) (opened n f.spelling b.others (subst (λ (m : ℕ). Closes m f.spelling b.others) k f.closes));
    }

nothing_left : (text uri rest : List ℕ) → (let z : List ℕ × List ℕ = ([], text) in z ≡ (uri, rest)) → Found 0 (41 ∷ text) uri rest
nothing_left text uri rest pair = record {
  spelling = [];
  joined = ap (λ (z : List ℕ × List ℕ). 41 ∷ z.1) pair;
  closes = subst (λ (z : List ℕ × List ℕ). SpellsUri [] z.0) pair ends;
}

at_close : (n : ℕ) (text uri rest : List ℕ) → ((m : ℕ) (u : List ℕ) → parse_uri_chars m text ≡ Ok (u, rest) → Found m text u rest) → parse_uri_chars n (41 ∷ text) ≡ Ok (uri, rest) → Found n (41 ∷ text) uri rest
at_close zero text uri rest h g = nothing_left text uri rest (same_read ([], text) (uri, rest) (sym (chars.ends 0 text refl) ∙ g))
at_close (suc n) text uri rest h g =
    let k : suc n - 1 ≡ n = omega arith in
    let b = behind 41 (parse_uri_chars n text) uri rest (ap (λ (m : ℕ). with_char 41 (parse_uri_chars m text)) (sym k) ∙ sym (chars.closes (suc n) text (omega arith)) ∙ g) in
    let f = h n b.others b.read_is in
    record { spelling = 41 ∷ f.spelling; joined = ap (λ (l : List ℕ). 41 ∷ l) f.joined; closes = ([], [], f.spelling, b.others, refl, b.uri_is, ends, f.closes) }

at_char : (n c : ℕ) (text uri rest : List ℕ) → (c == 94) ≡ false → (c == 40) ≡ false → (c == 41) ≡ false → ((m : ℕ) (u : List ℕ) → parse_uri_chars m text ≡ Ok (u, rest) → Found m text u rest) → parse_uri_chars n (c ∷ text) ≡ Ok (uri, rest) → Found n (c ∷ text) uri rest
at_char n c text uri rest x y z h g =
    let b = behind c (parse_uri_chars n text) uri rest (sym (chars.goes_on n c text (eqb-false c 94 x) (eqb-false c 40 y) (eqb-false c 41 z)) ∙ g) in
    let other : is_bracket_or_caret c ≡ false = rw (y, z, x) refl in
    found_behind n c (c ∷ []) text uri rest (parse_uri_chars n text) b (λ t u s. plain c t u other s) (h n b.others b.read_is)

at_other : (n c : ℕ) (text uri rest : List ℕ) → (c == 94) ≡ false → ((m : ℕ) (u : List ℕ) → parse_uri_chars m text ≡ Ok (u, rest) → Found m text u rest) → parse_uri_chars n (c ∷ text) ≡ Ok (uri, rest) → Found n (c ∷ text) uri rest
at_other n c text uri rest x h g =
    on_test (c == 40)
    (λ t. let e = eqb-true c 40 t in subst (λ (k : ℕ). Found n (k ∷ text) uri rest) (sym e) (at_open n text uri rest h (ap (λ (k : ℕ). parse_uri_chars n (k ∷ text)) (sym e) ∙ g)))
    (λ y. on_test (c == 41)
    (λ t. let e = eqb-true c 41 t in subst (λ (k : ℕ). Found n (k ∷ text) uri rest) (sym e) (at_close n text uri rest h (ap (λ (k : ℕ). parse_uri_chars n (k ∷ text)) (sym e) ∙ g)))
    (λ z. at_char n c text uri rest x y z h g))

lone_caret : (n c : ℕ) (uri rest : List ℕ) → (c == 94) ≡ true → parse_uri_chars n (c ∷ []) ≡ Ok (uri, rest) → ⊥
lone_caret n c uri rest t g = no_fault (Fault BadQuery) (uri, rest) (ap (λ (k : ℕ). parse_uri_chars n (k ∷ [])) (sym (eqb-true c 94 t)) ∙ g)

found : (n : ℕ) (text uri rest : List ℕ) → parse_uri_chars n text ≡ Ok (uri, rest) → Found n text uri rest
found n [] uri rest g = absurd cc
found n (c ∷ []) uri rest g =
    on_test (c == 94)
    (λ t. absurd (lone_caret n c uri rest t g))
    (λ f. at_other n c [] uri rest f (λ m u h. found m [] u rest h) g)
found n (c ∷ d ∷ text) uri rest g =
    on_test (c == 94)
    (λ t. at_caret n c d text uri rest (eqb-true c 94 t) (λ u h. found n text u rest h) g)
    (λ f. at_other n c (d ∷ text) uri rest f (λ m u h. found m (d ∷ text) u rest h) g)

-- the spelling of what is read up to the last `)`
pub spelled : (text uri rest : List ℕ) → parse_uri_chars 0 text ≡ Ok (uri, rest) → (spelling : List ℕ) × (text ≡ spelling ++ (41 ∷ rest)) × SpellsUri spelling uri
spelled text uri rest e = let f = found 0 text uri rest e in (f.spelling, f.joined, f.closes)
