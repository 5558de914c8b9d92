-- The inside of a comment, with its line ends normalized, can occur in a tree.
use Rattle.std.proofs.Common.{◌≡◌, ℕ, Bool, true, false, cond, List, [], ◌∷◌, length, drop, Result, Ok, Err, refl, sym, ap, subst}
use Rattle.std.specs.Prelude.{◌&&◌, not, ◌==◌, nat_eq, None, Some}
use Rattle.std.specs.List.{list_all, cons_option as with_char}
use Rattle.std.proofs.lemmas.Bool.{eqb-true, eq-eqb}
use Rattle.xml_grammar.specs.TextReading.{Stop, Syntax, ◌>>=◌, first_char_is, starts_with_word}
use Rattle.xml_grammar.specs.readers.RuleReaders.{read_up_to}
use Rattle.xml_names.specs.Characters.{is_char}
use Rattle.xml_names.specs.Comments.{is_comment_char, has_no_double_hyphen, is_comment}
use Rattle.xml_tokens.specs.declared.fault_kind.FaultKind.{FaultKind}
use Rattle.xml_tokens.specs.Values.{normalize_line_ends}
use Rattle.xml_markup.specs.readers.Literals.{dashes}

-- there is a first character, and it isn't a hyphen
other_head : List ℕ → Bool
other_head [] = false
other_head (d ∷ ds) = not (d == 45)

both : (a b : Bool) → a && b ≡ true → (a ≡ true) × (b ≡ true)
both true true h = (refl, refl)
both true false h = absurd cc
both false b h = absurd cc

join : (a b : Bool) → a ≡ true → b ≡ true → a && b ≡ true
join true true h i = refl
join true false h i = absurd cc
join false b h i = absurd cc

-- a hyphen is followed by another character
apart_by : (a b : Bool) → (a ≡ true → b ≡ false) → not (a && b) ≡ true
apart_by true true f = absurd (let k = f refl in cc)
apart_by true false f = refl
apart_by false b f = refl

not_true : (b : Bool) → not b ≡ true → b ≡ false
not_true true h = absurd cc
not_true false h = refl

apart_one : (b : Bool) → (b ≡ true → false ≡ true) → not b ≡ true
apart_one true f = absurd (let k = f refl in cc)
apart_one false f = refl

apart_cons : (c : ℕ) (xs : List ℕ) → (c == 45 ≡ true → other_head xs ≡ true) → has_no_double_hyphen xs ≡ true → has_no_double_hyphen (c ∷ xs) ≡ true
unfolding other_head
apart_cons c [] f h = apart_one (c == 45) f
apart_cons c (d ∷ ds) f h = join (not (c == 45 && d == 45)) (has_no_double_hyphen (d ∷ ds)) (apart_by (c == 45) (d == 45) (λ e. not_true (d == 45) (f e))) h

split_by : (a b c : Bool) → not (a && b) && c ≡ true → (a ≡ true → not b ≡ true) × (c ≡ true)
split_by true true c h = absurd cc
split_by true false c h = (λ _. refl, h)
split_by false b c h = (λ e. absurd cc, h)

none_by : (a : Bool) → not a ≡ true → a ≡ true → false ≡ true
none_by true h e = h
none_by false h e = e

apart_parts : (c : ℕ) (xs : List ℕ) → has_no_double_hyphen (c ∷ xs) ≡ true → (c == 45 ≡ true → other_head xs ≡ true) × (has_no_double_hyphen xs ≡ true)
unfolding other_head
apart_parts c [] h = (λ e. none_by (c == 45) h e, refl)
apart_parts c (d ∷ ds) h = split_by (c == 45) (d == 45) (has_no_double_hyphen (d ∷ ds)) h

-- line ends are normalized
head_by : (a b : Bool) (c : ℕ) (xs : List ℕ) → (a ≡ true → b ≡ true → other_head xs ≡ true) → not (c == 45) ≡ true → other_head (with_char (cond a (cond b None (Some 10)) (Some c)) xs) ≡ true
unfolding other_head
head_by true true c xs f h = f refl refl
head_by true false c xs f h = refl
head_by false b c xs f h = h

lf_head : (cs : List ℕ) → first_char_is (λ d. d == 10) cs ≡ true → other_head (normalize_line_ends cs) ≡ true
unfolding other_head
lf_head [] h = absurd cc
lf_head (d ∷ ds) h = let e : d ≡ 10 = eqb-true d 10 h in subst (λ (z : ℕ). other_head (normalize_line_ends (z ∷ ds)) ≡ true) (sym e) refl

read_head : (cs : List ℕ) → other_head cs ≡ true → other_head (normalize_line_ends cs) ≡ true
unfolding other_head
read_head [] h = absurd cc
read_head (c ∷ cs) h = head_by (c == 13) (first_char_is (λ d. d == 10) cs) c (normalize_line_ends cs) (λ _ e. lf_head cs e) h

kept_by : (a b : Bool) (c : ℕ) (xs : List ℕ) → c == 13 ≡ a → is_char c ≡ true → list_all is_comment_char xs ≡ true → list_all is_comment_char (with_char (cond a (cond b None (Some 10)) (Some c)) xs) ≡ true
kept_by true true c xs e h i = i
kept_by true false c xs e h i = i
kept_by false b c xs e h i = join (is_comment_char c) (list_all is_comment_char xs) (join (is_char c) (not (c == 13)) h (ap not e)) i

apart_read : (a b : Bool) (c : ℕ) (xs : List ℕ) → (c == 45 ≡ true → other_head xs ≡ true) → has_no_double_hyphen xs ≡ true → has_no_double_hyphen (with_char (cond a (cond b None (Some 10)) (Some c)) xs) ≡ true
unfolding other_head
apart_read true true c xs f h = h
apart_read true false c xs f h = apart_cons 10 xs (λ e. absurd cc) h
apart_read false b c xs f h = apart_cons c xs f h

all_kept : (cs : List ℕ) → list_all is_char cs ≡ true → list_all is_comment_char (normalize_line_ends cs) ≡ true
all_kept [] h = refl
all_kept (c ∷ cs) h = let p = both (is_char c) (list_all is_char cs) h in kept_by (c == 13) (first_char_is (λ d. d == 10) cs) c (normalize_line_ends cs) refl p.0 (all_kept cs p.1)

all_apart : (cs : List ℕ) → has_no_double_hyphen cs ≡ true → has_no_double_hyphen (normalize_line_ends cs) ≡ true
all_apart [] h = refl
all_apart (c ∷ cs) h = let p = apart_parts c cs h in apart_read (c == 13) (first_char_is (λ d. d == 10) cs) c (normalize_line_ends cs) (λ e. read_head cs (p.0 e)) (all_apart cs p.1)

-- ---- what was read up to the hyphens

unlike : (d : ℕ) (b : Bool) → d == 45 ≡ b → nat_eq 45 d ≡ false → not b ≡ true
unlike d true e f = absurd (let k : d ≡ 45 = eqb-true d 45 e in let g : nat_eq 45 d ≡ true = eq-eqb 45 d (sym k) in cc)
unlike d false e f = refl

cond_false : (b : Bool) → cond b true false ≡ false → b ≡ false
cond_false true h = absurd cc
cond_false false h = refl

first_of : (d : ℕ) (a : Bool) (out : Result (List ℕ × List ℕ) (Stop FaultKind)) (e : Stop FaultKind) (x : List ℕ × List ℕ) → cond a (out >>= λ y. Ok (d ∷ y.0, y.1)) (Err e) ≡ Ok x → (a ≡ true) × (ds : List ℕ) × (out ≡ Ok (ds, x.1)) × (x.0 ≡ d ∷ ds)
first_of d true (Ok y) e x h =
    let same : (d ∷ y.0, y.1) ≡ x = cc in
    (refl, y.0, ap (λ (z : List ℕ × List ℕ). let w : List ℕ × List ℕ = (y.0, z.1) in Ok w) same, sym (ap (λ (z : List ℕ × List ℕ). z.0) same))
first_of d true (Err f) e x h = absurd cc
first_of d false out e x h = absurd cc

behind_hyphen : (tail : List ℕ) (x : List ℕ × List ℕ) → read_up_to {Kind = FaultKind} is_char dashes tail ≡ Ok x → starts_with_word dashes (45 ∷ tail) ≡ false → other_head x.0 ≡ true
unfolding other_head
behind_hyphen [] x h s = absurd cc
behind_hyphen (d ∷ ds) x h s =
    let f : nat_eq 45 d ≡ false = cond_false (nat_eq 45 d) s in
    let g : cond (is_char d) (read_up_to {Kind = FaultKind} is_char dashes ds >>= λ y. Ok (d ∷ y.0, y.1)) (Err (Syntax (d ∷ ds))) ≡ Ok x = rw f at h in
    let k = first_of d (is_char d) (read_up_to is_char dashes ds) (Syntax (d ∷ ds)) x g in
    subst (λ (z : List ℕ). other_head z ≡ true) (sym k.3) (unlike d (d == 45) refl f)

pub record IsKept (cs : List ℕ) : Type 0 where
  pub chars : list_all is_char cs ≡ true
  pub apart : has_no_double_hyphen cs ≡ true

kept_more : (c : ℕ) (tail cs : List ℕ) → is_char c ≡ true → (c == 45 ≡ true → other_head cs ≡ true) → IsKept cs → IsKept (c ∷ cs)
kept_more c tail cs p f k = record { chars = join (is_char c) (list_all is_char cs) p k.chars; apart = apart_cons c cs f k.apart }

nil_of : (rest : List ℕ) (x : List ℕ × List ℕ) → let z : Result (List ℕ × List ℕ) (Stop FaultKind) = Ok ([], rest) in z ≡ Ok x → x.0 ≡ []
nil_of rest x h = let same : ([], rest) ≡ x = cc in sym (ap (λ (z : List ℕ × List ℕ). z.0) same)

hyphen_next : (c : ℕ) (tail : List ℕ) (x : List ℕ × List ℕ) → read_up_to {Kind = FaultKind} is_char dashes tail ≡ Ok x → starts_with_word dashes (c ∷ tail) ≡ false → c == 45 ≡ true → other_head x.0 ≡ true
hyphen_next c tail x h s e = behind_hyphen tail x h (subst (λ (z : ℕ). starts_with_word dashes (z ∷ tail) ≡ false) (eqb-true c 45 e) s)

kept_cond : (c : ℕ) (tail : List ℕ) (b : Bool) (x : List ℕ × List ℕ) → starts_with_word dashes (c ∷ tail) ≡ b → ((y : List ℕ × List ℕ) → read_up_to {Kind = FaultKind} is_char dashes tail ≡ Ok y → IsKept y.0)
    → cond b (Ok ([], drop (length dashes) (c ∷ tail))) (cond (is_char c) (read_up_to {Kind = FaultKind} is_char dashes tail >>= λ y. Ok (c ∷ y.0, y.1)) (Err (Syntax (c ∷ tail)))) ≡ Ok x → IsKept x.0
kept_cond c tail true x s f h = subst IsKept (sym (nil_of (drop (length dashes) (c ∷ tail)) x h)) (record { chars = refl; apart = refl })
kept_cond c tail false x s f h =
    let k = first_of c (is_char c) (read_up_to is_char dashes tail) (Syntax (c ∷ tail)) x h in
    subst IsKept (sym k.3) (kept_more c tail k.1 k.0 (λ e. hyphen_next c tail (k.1, x.1) k.2 s e) (f (k.1, x.1) k.2))

kept_of : (text : List ℕ) (x : List ℕ × List ℕ) → read_up_to {Kind = FaultKind} is_char dashes text ≡ Ok x → IsKept x.0
kept_of [] x h = absurd cc
kept_of (c ∷ tail) x h = kept_cond c tail (starts_with_word dashes (c ∷ tail)) x refl (λ y i. kept_of tail y i) h

pub read_is_comment : (text : List ℕ) (x : List ℕ × List ℕ) → read_up_to {Kind = FaultKind} is_char dashes text ≡ Ok x → is_comment (normalize_line_ends x.0) ≡ true
read_is_comment text x h = let k = kept_of text x h in join (list_all is_comment_char (normalize_line_ends x.0)) (has_no_double_hyphen (normalize_line_ends x.0)) (all_kept x.0 k.chars) (all_apart x.0 k.apart)
