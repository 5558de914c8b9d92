-- Plain characters before the end of their run are the run, and are read as themselves.
use Rattle.std.proofs.Common.{◌≡◌, ℕ, ◌≤◌, ◌≢◌, Bool, true, false, List, [], ◌∷◌, ◌++◌, ◌&&◌, ◌||◌, Result, Ok, refl, sym, ap, subst, ◌∙◌, arith}
use Rattle.std.specs.List.{list_all}
use Rattle.std.specs.Prelude.{nat_eq, nat_le, not}
use Rattle.std.proofs.lemmas.Bool.{and_parts, eqb-true, le-leb, ne_eqb}
use Rattle.xml_grammar.specs.TextReading.{Stop, take_while, drop_while}
use Rattle.xml_grammar.specs.readers.RuleReaders.{take_while_without, drop_while_without}
use Rattle.std.specs.Int.{is_in_range as within}
use Rattle.xml_tokens.specs.declared.fault_kind.FaultKind.{FaultKind}
use Rattle.xml_tokens.specs.Tokens.{is_quote, is_raw_char, is_raw_value_char}
use Rattle.xml_tokens.specs.readers.ValueParts.{read_normalized_raw}
use Rattle.xml_tokens.specs.Values.{normalize_line_ends, normalized_raw}
use Rattle.xml_tokens.specs.readers.Tokens.{read_chars}
use Rattle.xml_tokens.specs.readers.CharacterRuns.{is_not_return, is_not_control, is_plain_in_content, is_plain_in_value, ends_run}
use Rattle.xml_tokens.specs.readers.Literals.{cdata_end}
use Rattle.xml_tokens.proofs.PlainRuns.{plain_lines, smooth_raw}
use Rattle.xml_tokens.proofs.RawLetters.{bounds}

-- characters that are raw and read as themselves
record IsPrinted (c : ℕ) : Type 0 where
  stands : is_raw_char c ≡ true
  smooth : nat_le 32 c ≡ true
  no_return : nat_eq c 13 ≡ false

printed : (c : ℕ) → 32 ≤ c → c ≤ 126 → c ≢ 38 → c ≢ 60 → IsPrinted c
printed c low high amp less = record {
  stands =
      rw (ne_eqb c 9 (λ e. omega (arith, e, low)), ne_eqb c 10 (λ e. omega (arith, e, low)), ne_eqb c 13 (λ e. omega (arith, e, low)))
      (rw (le-leb 32 c low, le-leb c 55295 (omega (arith, high)))
      (rw (ne_eqb c 60 less, ne_eqb c 38 amp) refl));
  smooth = le-leb 32 c low;
  no_return = ne_eqb c 13 (λ e. omega (arith, e, low));
}

-- characters that are so in content, whatever surrounds them
record IsInner (c : ℕ) : Type 0 where
  stands : is_raw_char c ≡ true
  no_bracket : nat_eq 93 c ≡ false
  no_return : nat_eq c 13 ≡ false

printed_inner : (c : ℕ) → IsPrinted c → 93 ≢ c → IsInner c
printed_inner c p other = record { stands = p.stands; no_bracket = ne_eqb 93 c other; no_return = p.no_return }

space_inner : IsInner 32
space_inner = record { stands = refl; no_bracket = refl; no_return = refl }

line_end_inner : IsInner 10
line_end_inner = record { stands = refl; no_bracket = refl; no_return = refl }

inner_by : (c : ℕ) (a b d e f g : Bool) → within 94 126 c ≡ a → nat_eq c 32 ≡ b → nat_eq c 10 ≡ d → within 61 92 c ≡ e → within 33 37 c ≡ f → within 39 59 c ≡ g → (((((a || b) || d) || e) || f) || g) ≡ true → IsInner c
inner_by c true b d e f g i j k l m n h =
    let w = bounds 94 126 c i in
    let from : 94 ≤ c = w.0 in
    printed_inner c (printed c (omega (arith, from)) w.1 (λ x. omega (arith, x, from)) (λ x. omega (arith, x, from))) (λ x. omega (arith, x, from))
inner_by c false true d e f g i j k l m n h = subst IsInner (sym (eqb-true c 32 j)) space_inner
inner_by c false false true e f g i j k l m n h = subst IsInner (sym (eqb-true c 10 k)) line_end_inner
inner_by c false false false true f g i j k l m n h =
    let w = bounds 61 92 c l in
    let from : 61 ≤ c = w.0 in
    let to : c ≤ 92 = w.1 in
    printed_inner c (printed c (omega (arith, from)) (omega (arith, to)) (λ x. omega (arith, x, from)) (λ x. omega (arith, x, from))) (λ x. omega (arith, x, to))
inner_by c false false false false true g i j k l m n h =
    let w = bounds 33 37 c m in
    let from : 33 ≤ c = w.0 in
    let to : c ≤ 37 = w.1 in
    printed_inner c (printed c (omega (arith, from)) (omega (arith, to)) (λ x. omega (arith, x, to)) (λ x. omega (arith, x, to))) (λ x. omega (arith, x, to))
inner_by c false false false false false true i j k l m n h =
    let w = bounds 39 59 c n in
    let from : 39 ≤ c = w.0 in
    let to : c ≤ 59 = w.1 in
    printed_inner c (printed c (omega (arith, from)) (omega (arith, to)) (λ x. omega (arith, x, from)) (λ x. omega (arith, x, to))) (λ x. omega (arith, x, to))
inner_by c false false false false false false i j k l m n h = absurd cc

plain_inner : (c : ℕ) → is_plain_in_content c ≡ true → IsInner c
plain_inner c h = inner_by c (within 94 126 c) (nat_eq c 32) (nat_eq c 10) (within 61 92 c) (within 33 37 c) (within 39 59 c) refl refl refl refl refl refl h

-- characters that are so in a value, whatever its quotes are
record IsUnquoted (c : ℕ) : Type 0 where
  printed : IsPrinted c
  no_quote : nat_eq c 34 ≡ false
  no_apostrophe : nat_eq c 39 ≡ false

unquoted : (c : ℕ) → IsPrinted c → c ≢ 34 → c ≢ 39 → IsUnquoted c
unquoted c p double single = record { printed = p; no_quote = ne_eqb c 34 double; no_apostrophe = ne_eqb c 39 single }

space_unquoted : IsUnquoted 32
space_unquoted = record { printed = record { stands = refl; smooth = refl; no_return = refl }; no_quote = refl; no_apostrophe = refl }

mark_unquoted : IsUnquoted 33
mark_unquoted = record { printed = record { stands = refl; smooth = refl; no_return = refl }; no_quote = refl; no_apostrophe = refl }

value_by : (c : ℕ) (a b d e f : Bool) → within 40 59 c ≡ a → within 61 126 c ≡ b → within 35 37 c ≡ d → nat_eq c 32 ≡ e → nat_eq c 33 ≡ f → ((((a || b) || d) || e) || f) ≡ true → IsUnquoted c
value_by c true b d e f i j k l m h =
    let w = bounds 40 59 c i in
    let from : 40 ≤ c = w.0 in
    let to : c ≤ 59 = w.1 in
    unquoted c (printed c (omega (arith, from)) (omega (arith, to)) (λ x. omega (arith, x, from)) (λ x. omega (arith, x, to))) (λ x. omega (arith, x, from)) (λ x. omega (arith, x, from))
value_by c false true d e f i j k l m h =
    let w = bounds 61 126 c j in
    let from : 61 ≤ c = w.0 in
    unquoted c (printed c (omega (arith, from)) w.1 (λ x. omega (arith, x, from)) (λ x. omega (arith, x, from))) (λ x. omega (arith, x, from)) (λ x. omega (arith, x, from))
value_by c false false true e f i j k l m h =
    let w = bounds 35 37 c k in
    let from : 35 ≤ c = w.0 in
    let to : c ≤ 37 = w.1 in
    unquoted c (printed c (omega (arith, from)) (omega (arith, to)) (λ x. omega (arith, x, to)) (λ x. omega (arith, x, to))) (λ x. omega (arith, x, from)) (λ x. omega (arith, x, to))
value_by c false false false true f i j k l m h = subst IsUnquoted (sym (eqb-true c 32 l)) space_unquoted
value_by c false false false false true i j k l m h = subst IsUnquoted (sym (eqb-true c 33 m)) mark_unquoted
value_by c false false false false false i j k l m h = absurd cc

plain_unquoted : (c : ℕ) → is_plain_in_value c ≡ true → IsUnquoted c
plain_unquoted c h = value_by c (within 40 59 c) (within 61 126 c) (within 35 37 c) (nat_eq c 32) (nat_eq c 33) refl refl refl refl refl h

is_different_char : (quote c : ℕ) (a b : Bool) → nat_eq quote 34 ≡ a → nat_eq quote 39 ≡ b → (a || b) ≡ true → IsUnquoted c → nat_eq c quote ≡ false
is_different_char quote c true b i j h plain = subst (λ (q : ℕ). nat_eq c q ≡ false) (sym (eqb-true quote 34 i)) plain.no_quote
is_different_char quote c false true i j h plain = subst (λ (q : ℕ). nat_eq c q ≡ false) (sym (eqb-true quote 39 j)) plain.no_apostrophe
is_different_char quote c false false i j h plain = absurd cc

plain_raw_in : (quote : ℕ) → is_quote quote ≡ true → (c : ℕ) → is_plain_in_value c ≡ true → is_raw_value_char quote c ≡ true
plain_raw_in quote given c h =
    let plain = plain_unquoted c h in
    both_true (is_raw_char c) (not (nat_eq c quote)) plain.printed.stands (ap not (is_different_char quote c (nat_eq quote 34) (nat_eq quote 39) refl refl given plain))
  where
    both_true : (a b : Bool) → a ≡ true → b ≡ true → (a && b) ≡ true
    both_true a b i j = rw (i, j) refl

-- what holds of each holds of all
all_by : (p q : ℕ → Bool) → ((c : ℕ) → p c ≡ true → q c ≡ true) → (cs : List ℕ) → list_all p cs ≡ true → list_all q cs ≡ true
all_by p q each [] h = refl
all_by p q each (c ∷ cs) h =
    let both = and_parts (p c) (list_all p cs) h in
    rw (each c both.0) (all_by p q each cs both.1)

-- they are read as themselves
content_lines : (cs : List ℕ) → list_all is_plain_in_content cs ≡ true → normalize_line_ends cs ≡ cs
content_lines cs h = plain_lines cs (all_by is_plain_in_content is_not_return (λ c i. ap not (plain_inner c i).no_return) cs h)

value_raw : (cs : List ℕ) → list_all is_plain_in_value cs ≡ true → normalized_raw cs ≡ cs
value_raw cs h = smooth_raw cs (all_by is_plain_in_value is_not_control (λ c i. (plain_unquoted c i).printed.smooth) cs h)

-- a run of characters that pass, before one that doesn't
module _ (p q : ℕ → Bool) (each : (c : ℕ) → q c ≡ true → p c ≡ true) (rest : List ℕ) (none : take_while p rest ≡ []) (all : drop_while p rest ≡ rest) where
  pub front_is : (front : List ℕ) → list_all q front ≡ true → take_while p (front ++ rest) ≡ front
  front_is [] h = none
  front_is (c ∷ front) h =
      let both = and_parts (q c) (list_all q front) h in
      rw (each c both.0) (ap (λ (z : List ℕ). c ∷ z) (front_is front both.1))

  pub rest_is : (front : List ℕ) → list_all q front ≡ true → drop_while p (front ++ rest) ≡ rest
  rest_is [] h = all
  rest_is (c ∷ front) h =
      let both = and_parts (q c) (list_all q front) h in
      rw (each c both.0) (rest_is front both.1)

-- a run where `]]>` isn't allowed, and none of the characters is a `]`
module _ (p q : ℕ → Bool) (each : (c : ℕ) → q c ≡ true → p c ≡ true) (other : (c : ℕ) → q c ≡ true → nat_eq 93 c ≡ false) (rest : List ℕ)
    (none : take_while_without p cdata_end rest ≡ []) (all : drop_while_without p cdata_end rest ≡ rest) where
  front_without_is : (front : List ℕ) → list_all q front ≡ true → take_while_without p cdata_end (front ++ rest) ≡ front
  front_without_is [] h = none
  front_without_is (c ∷ front) h =
      let both = and_parts (q c) (list_all q front) h in
      rw (other c both.0) (rw (each c both.0) (ap (λ (z : List ℕ). c ∷ z) (front_without_is front both.1)))

  rest_without_is : (front : List ℕ) → list_all q front ≡ true → drop_while_without p cdata_end (front ++ rest) ≡ rest
  rest_without_is [] h = all
  rest_without_is (c ∷ front) h =
      let both = and_parts (q c) (list_all q front) h in
      rw (other c both.0) (rw (each c both.0) (rest_without_is front both.1))

answer : (f : List ℕ → List ℕ) (x y u v w : List ℕ) → x ≡ u → y ≡ v → f u ≡ w → let a : Result (List ℕ × List ℕ) (Stop FaultKind) = Ok (f x, y) in a ≡ Ok (w, v)
answer f x y u v w h i j = rw h (rw (i, j) refl)

-- # Content

content_ends_by : (c : ℕ) (cs : List ℕ) (a b : Bool) → nat_eq c 60 ≡ a → nat_eq c 38 ≡ b → (a || b) ≡ true → (take_while_without is_raw_char cdata_end (c ∷ cs) ≡ []) × (drop_while_without is_raw_char cdata_end (c ∷ cs) ≡ c ∷ cs)
content_ends_by c cs true b i j h = let z = eqb-true c 60 i in rw z (refl, refl)
content_ends_by c cs false true i j h = let z = eqb-true c 38 j in rw z (refl, refl)
content_ends_by c cs false false i j h = absurd cc

content_ends : (rest : List ℕ) → ends_run 60 rest ≡ true → (take_while_without is_raw_char cdata_end rest ≡ []) × (drop_while_without is_raw_char cdata_end rest ≡ rest)
content_ends [] h = absurd cc
content_ends (c ∷ cs) h = content_ends_by c cs (nat_eq c 60) (nat_eq c 38) refl refl h

pub plain_chars : (text front rest : List ℕ) → text ≡ front ++ rest → list_all is_plain_in_content front ≡ true → ends_run 60 rest ≡ true → read_chars text ≡ Ok (front, rest)
plain_chars text front rest whole h e =
    let none = content_ends rest e in
    let stands = λ (c : ℕ) (i : is_plain_in_content c ≡ true). (plain_inner c i).stands in
    let other = λ (c : ℕ) (i : is_plain_in_content c ≡ true). (plain_inner c i).no_bracket in
    ap read_chars whole ∙ answer normalize_line_ends _ _ front rest front
    (front_without_is is_raw_char is_plain_in_content stands other rest none.0 none.1 front h)
    (rest_without_is is_raw_char is_plain_in_content stands other rest none.0 none.1 front h)
    (content_lines front h)

-- # Values

value_ends_by : (quote c : ℕ) (cs : List ℕ) (a b : Bool) → nat_eq c quote ≡ a → nat_eq c 38 ≡ b → (a || b) ≡ true → is_raw_value_char quote c ≡ false
value_ends_by quote c cs true b i j h = rw i (never (is_raw_char c))
  where
    never : (b : Bool) → (b && false) ≡ false
    never true = refl
    never false = refl
value_ends_by quote c cs false true i j h = let z = eqb-true c 38 j in rw z refl
value_ends_by quote c cs false false i j h = absurd cc

value_ends : (quote : ℕ) (rest : List ℕ) → ends_run quote rest ≡ true → (take_while (is_raw_value_char quote) rest ≡ []) × (drop_while (is_raw_value_char quote) rest ≡ rest)
value_ends quote [] h = absurd cc
value_ends quote (c ∷ cs) h = by (is_raw_value_char quote) (value_ends_by quote c cs (nat_eq c quote) (nat_eq c 38) refl refl h)
  where
    by : (p : ℕ → Bool) → p c ≡ false → (take_while p (c ∷ cs) ≡ []) × (drop_while p (c ∷ cs) ≡ c ∷ cs)
    by p i = rw i (refl, refl)

pub plain_blanked : (quote : ℕ) (text front rest : List ℕ) → is_quote quote ≡ true → text ≡ front ++ rest → list_all is_plain_in_value front ≡ true → ends_run quote rest ≡ true → read_normalized_raw quote text ≡ Ok (front, rest)
plain_blanked quote text front rest given whole h e =
    let none = value_ends quote rest e in
    ap (read_normalized_raw quote) whole ∙ answer normalized_raw _ _ front rest front
    (front_is (is_raw_value_char quote) is_plain_in_value (plain_raw_in quote given) rest none.0 none.1 front h)
    (rest_is (is_raw_value_char quote) is_plain_in_value (plain_raw_in quote given) rest none.0 none.1 front h)
    (value_raw front h)
