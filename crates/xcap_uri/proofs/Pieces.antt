-- Texts cut into pieces, one cut at a time.
use Rattle.std.proofs.Common.{◌≡◌, ℕ, Bool, true, false, not, ◌==◌, nat_eq, List, [], ◌∷◌, ◌++◌, Option, None, Some, unwrap_or, length, suc, ◌<◌, ◌≤◌, refl, sym, ap, ◌∙◌, arith}
use Rattle.std.proofs.lemmas.Bool.{eqb-true, eq-eqb}
use Rattle.std.specs.List.{list_all, onto_first as with_first}
use Rattle.xml_tokens.specs.Tokens.{is_different_char}
use Rattle.xml_grammar.specs.TextReading.{drop_while}
use Rattle.xml_grammar.specs.Rules.{AllPass}
use Rattle.xcap_uri.specs.Delimiters.{rest_after_front, front_before, rest_after, after_first, pieces}
use Rattle.xcap_uri.specs.Roots.{is_one_or_more}

-- a test, by its two results
pub on_test : {P : Type 0} (b : Bool) → (b ≡ true → P) → (b ≡ false → P) → P
on_test true f g = f refl
on_test false f g = g refl

-- ---- cut at a stop

-- the pieces of what comes after a cut
abbrev pub pieces_behind : ℕ → Option (List ℕ) → List (List ℕ)
pieces_behind stop None = []
pieces_behind stop (Some rest) = pieces stop rest

-- one more character at the front, which is the stop or isn't
one_more : (stop b : ℕ) (bs : List ℕ) (t : Bool) → b == stop ≡ t → pieces stop bs ≡ front_before stop bs ∷ pieces_behind stop (rest_after stop bs) → pieces stop (b ∷ bs) ≡ front_before stop (b ∷ bs) ∷ pieces_behind stop (rest_after stop (b ∷ bs))
one_more stop b bs true h e = rw (h) refl
one_more stop b bs false h e = rw (h) (ap (with_first b) e)

pub pieces_cut : (stop : ℕ) (text : List ℕ) → pieces stop text ≡ front_before stop text ∷ pieces_behind stop (rest_after stop text)
pieces_cut stop [] = refl
pieces_cut stop (b ∷ bs) = one_more stop b bs (b == stop) refl (pieces_cut stop bs)

-- what comes after a stop is shorter than the text
front_le : (p : ℕ → Bool) (c : ℕ) (cs : List ℕ) (t : Bool) → p c ≡ t → length (drop_while p cs) ≤ length cs → length (drop_while p (c ∷ cs)) ≤ suc (length cs)
front_le p c cs true h le = rw h (omega (arith, le))
front_le p c cs false h le = rw h (omega arith)

after_le : (p : ℕ → Bool) (text : List ℕ) → length (drop_while p text) ≤ length text
after_le p [] = omega arith
after_le p (c ∷ cs) = front_le p c cs (p c) refl (after_le p cs)

first_less : (rest tail : List ℕ) → after_first rest ≡ Some tail → length tail < length rest
first_less [] tail e = cc
first_less (b ∷ bs) tail e = let same : length bs ≡ length tail = ap (λ o. length (unwrap_or o [])) e in omega (arith, same)

pub behind_shorter : (stop : ℕ) (text tail : List ℕ) → rest_after stop text ≡ Some tail → length tail < length text
behind_shorter stop text tail e = omega (arith, after_le (is_different_char stop) text, first_less (drop_while (is_different_char stop) text) tail e)

-- one or more of a class, where there is one
pub some_of : (p : ℕ → Bool) (piece : List ℕ) → 1 ≤ length piece → list_all p piece ≡ is_one_or_more p piece
some_of p [] some = absurd (omega arith)
some_of p (c ∷ cs) some = refl

-- ---- cuts where nothing is cut, and after a front

not_true : (t : Bool) → not t ≡ true → t ≡ false
not_true true h = sym h
not_true false h = refl

pub before_all : (stop : ℕ) (xs : List ℕ) → AllPass (is_different_char stop) xs → front_before stop xs ≡ xs
before_all stop [] all = refl
before_all stop (b ∷ bs) all = rw (not_true (b == stop) all.0) (ap (λ (l : List ℕ). b ∷ l) (before_all stop bs all.1))

after_all : (stop : ℕ) (xs : List ℕ) → AllPass (is_different_char stop) xs → drop_while (is_different_char stop) xs ≡ []
after_all stop [] all = refl
after_all stop (b ∷ bs) all = rw (not_true (b == stop) all.0) (after_all stop bs all.1)

pub behind_all : (stop : ℕ) (xs : List ℕ) → AllPass (is_different_char stop) xs → rest_after stop xs ≡ None
behind_all stop xs all = ap after_first (after_all stop xs all)

pub pieces_one : (stop : ℕ) (xs : List ℕ) → AllPass (is_different_char stop) xs → pieces stop xs ≡ xs ∷ []
pieces_one stop [] all = refl
pieces_one stop (b ∷ bs) all = rw (not_true (b == stop) all.0) (ap (with_first b) (pieces_one stop bs all.1))

self_eq : (n : ℕ) → (n == n) ≡ true
self_eq n = eq-eqb n n refl

pub pieces_more : (stop : ℕ) (xs ys : List ℕ) → AllPass (is_different_char stop) xs → pieces stop (xs ++ (stop ∷ ys)) ≡ xs ∷ pieces stop ys
pieces_more stop [] ys all = rw (self_eq stop) refl
pieces_more stop (b ∷ bs) ys all = rw (not_true (b == stop) all.0) (ap (with_first b) (pieces_more stop bs ys all.1))

-- a front that is there
pub after_append : (xs ys : List ℕ) → rest_after_front xs (xs ++ ys) ≡ Some ys
after_append [] ys = refl
after_append (x ∷ xs) ys = rw (self_eq x) (after_append xs ys)

pub front_there : (front text rest : List ℕ) → rest_after_front front text ≡ Some rest → text ≡ front ++ rest
front_there [] text rest e = cc
front_there (c ∷ cs) [] rest e = absurd cc
front_there (c ∷ cs) (d ∷ text) rest e =
    on_test (nat_eq c d)
    (λ t. ap (λ (x : ℕ). x ∷ text) (sym (eqb-true c d t)) ∙ ap (λ (l : List ℕ). c ∷ l) (front_there cs text rest (rw t at e)))
    (λ f. let never : None ≡ Some rest = rw f at e in absurd cc)
