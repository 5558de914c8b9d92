-- Reading functions: each reads a text from left to right by a rule, and returns a value and the
-- rest of the text, or a stop with the rest there. There is one for each way to make a rule, and
-- code that reads equals one of them.
use Rattle.std.specs.Prelude.{ℕ, zero, suc, ◌+◌, ◌-◌, ◌*◌, Bool, true, false, ◌&&◌, List, [], ◌∷◌}
use Rattle.std.specs.Prelude.{◌++◌, Result, Ok, Err, if◌then◌else◌, nat_le, length, drop}
use Rattle.std.specs.Prelude.{encode_utf8_all, Option, Some, None}
use Rattle.xml_grammar.specs.Digits.{Digits}
use Rattle.xml_grammar.specs.TextReading.{Faulty, Reader, Stop, Syntax, drop_while, first_char_is}
use Rattle.xml_grammar.specs.TextReading.{read_one_char}
use Rattle.xml_grammar.specs.TextReading.{read_run, read_sequence, read_mapped, read_word}
use Rattle.xml_grammar.specs.TextReading.{starts_with_word}
use Rattle.xml_grammar.specs.TextReading.{◌>>=◌}

-- at least one character of the first class is at the front, and after all of them one of the
-- second
abbrev pub space_then : (ℕ → Bool) → (ℕ → Bool) → List ℕ → Bool
space_then space p text = first_char_is space text && first_char_is p (drop_while space text)

abbrev pub read_never : {Kind A : Type 0} → Reader Kind A
read_never text = Err (Syntax text)

abbrev pub read_empty : {Kind A : Type 0} → A → Reader Kind A
read_empty value text = Ok (value, text)

-- all but the last character of a word
abbrev pub all_but_last : List ℕ → List ℕ
all_but_last [] = []
all_but_last (c ∷ []) = []
all_but_last (c ∷ d ∷ w) = c ∷ all_but_last (d ∷ w)

-- the characters of a class at the front, up to where the next one would complete the word
abbrev pub take_while_without : (ℕ → Bool) → List ℕ → List ℕ → List ℕ
take_while_without p w [] = []
take_while_without p w (c ∷ cs) =
    if starts_with_word w (c ∷ cs)
    then all_but_last w
    else if p c then (c ∷ take_while_without p w cs) else []

abbrev pub drop_while_without : (ℕ → Bool) → List ℕ → List ℕ → List ℕ
drop_while_without p w [] = []
drop_while_without p w (c ∷ cs) =
    if starts_with_word w (c ∷ cs)
    then drop (length w - 1) (c ∷ cs)
    else if p c then drop_while_without p w cs else (c ∷ cs)

abbrev pub read_run_without : {Kind : Type 0} → (ℕ → Bool) → List ℕ → Reader Kind (List ℕ)
read_run_without p w text = Ok (take_while_without p w text, drop_while_without p w text)

abbrev pub read_up_to : {Kind : Type 0} → (ℕ → Bool) → List ℕ → Reader Kind (List ℕ)
read_up_to p w [] = Err (Syntax [])
read_up_to p w (c ∷ cs) =
    if starts_with_word w (c ∷ cs)
    then Ok ([], drop (length w) (c ∷ cs))
    else if p c then (read_up_to p w cs >>= λ x. Ok (c ∷ x.0, x.1)) else Err (Syntax (c ∷ cs))

-- the end of a number whose digits so far have value n, and whether there are any digits
abbrev pub number_end : {Kind : Type 0} → (ℕ → Bool) → ℕ → Bool → Reader Kind ℕ
number_end p n any text = if any && p n then Ok (n, text) else Err (Syntax text)

abbrev pub read_digits : {Kind : Type 0} → Digits → ℕ → (ℕ → Bool) → ℕ → Bool → Reader Kind ℕ
read_digits d most p n any [] = number_end p n any []
read_digits d most p n any (c ∷ cs) =
    if d.is_digit c
    then if nat_le (n * d.base + d.value c) most
    then read_digits d most p (n * d.base + d.value c) true cs
    else Err (Syntax (c ∷ cs))
    else number_end p n any (c ∷ cs)

abbrev pub read_number : {Kind : Type 0} → Digits → ℕ → (ℕ → Bool) → Reader Kind ℕ
read_number d most p = read_digits d most p 0 false

-- the test chooses which of the two is read
abbrev pub read_either : {Kind A : Type 0} → (List ℕ → Bool) → Reader Kind A → Reader Kind A
    → Reader Kind A
read_either test p q text = if test text then p text else q text

-- members while the test holds, at most n
abbrev pub read_at_most : {Kind A : Type 0} → (List ℕ → Bool) → Reader Kind A → ℕ
    → Reader Kind (List A)
read_at_most test p zero text = Ok ([], text)
read_at_most test p (suc n) text =
    if test text
    then (p text >>= λ x. read_at_most test p n x.1 >>= λ y. Ok (x.0 ∷ y.0, y.1))
    else Ok ([], text)

-- all members: at most as many as the text has bytes in UTF-8, since each takes one or more
abbrev pub read_many : {Kind A : Type 0} → (List ℕ → Bool) → Reader Kind A → Reader Kind (List A)
read_many test p text = read_at_most test p (length (encode_utf8_all text)) text

abbrev pub read_with_length : {Kind A : Type 0} → Reader Kind A → Reader Kind (A × ℕ)
read_with_length p text = p text >>= λ x. Ok ((x.0, length text - length x.1), x.1)

abbrev pub read_filtered : {Kind A : Type 0} → (A → Bool) → Reader Kind A → Reader Kind A
read_filtered test p text = p text >>= λ x. if test x.0 then Ok x else Err (Syntax x.1)

-- where the text can't be read, reading stops at its start
abbrev pub stop_at_start : {Kind A : Type 0} → List ℕ → Result (A × List ℕ) (Stop Kind)
    → Result (A × List ℕ) (Stop Kind)
stop_at_start text (Ok x) = Ok x
stop_at_start text (Err e) = Err (Syntax text)

abbrev pub read_atomic : {Kind A : Type 0} → Reader Kind A → Reader Kind A
read_atomic p text = stop_at_start text (p text)

-- the test says whether a marked prefix that is a fault begins here
abbrev pub read_with_prefix_mark : {Kind A : Type 0} → Kind → (List ℕ → Bool) → Reader Kind A
    → Reader Kind A
read_with_prefix_mark kind test p text = if test text then Err (Faulty kind text) else p text

-- what was read, unless a fault marks a place this many characters back
abbrev pub value_or_fault : {Kind A : Type 0} → List ℕ → A × List ℕ → Option (Kind × ℕ)
    → Result (A × List ℕ) (Stop Kind)
value_or_fault text x None = Ok x
value_or_fault text x (Some said) =
    Err (Faulty said.0 (drop (length text - length x.1 - said.1) text))

abbrev pub read_with_value_marks : {Kind A : Type 0} → (A → Option (Kind × ℕ)) → Reader Kind A
    → Reader Kind A
read_with_value_marks judge p text = p text >>= λ x. value_or_fault text x (judge x.0)

abbrev pub read_refused_word : {Kind A : Type 0} → Kind → List ℕ → List ℕ → Reader Kind A
read_refused_word kind seen rest text =
    if starts_with_word (seen ++ rest) text then Err (Faulty kind text)
    else (read_word seen text >>= λ x. Err (Syntax x.1))

abbrev pub read_optional : {Kind A : Type 0} → (List ℕ → Bool) → Reader Kind A
    → Reader Kind (Option A)
read_optional test p = read_either test (read_mapped Some p) (read_empty None)

abbrev pub read_between_gaps : {Kind A B : Type 0} → (List ℕ → Bool) → Reader Kind A → Reader Kind B
    → Reader Kind (A × List (B × A))
read_between_gaps test gap member =
    read_sequence gap (λ _. read_many test (read_sequence member (λ _. gap)))

abbrev pub read_name_rule : {Kind : Type 0} → (ℕ → Bool) → (ℕ → Bool) → Reader Kind (List ℕ)
read_name_rule first others =
    read_mapped (λ x. x.0 ∷ x.1) (read_sequence (read_one_char first) (λ _. read_run others))

abbrev pub read_first : {Kind A B : Type 0} → Reader Kind A → Reader Kind B → Reader Kind A
read_first p q = read_mapped (λ x. x.0) (read_sequence p (λ _. q))

abbrev pub read_second : {Kind A B : Type 0} → Reader Kind A → Reader Kind B → Reader Kind B
read_second p q = read_mapped (λ x. x.1) (read_sequence p (λ _. q))

abbrev pub read_quoted : {Kind A : Type 0} → (ℕ → Bool) → (ℕ → Reader Kind A) → Reader Kind A
read_quoted is_quote inside =
    read_mapped (λ x. x.1)
    (read_sequence (read_one_char is_quote) (λ q. read_first (inside q) (read_word (q ∷ []))))

-- nothing is left
abbrev pub require_end : {Kind A : Type 0} → A → List ℕ → Result A (Stop Kind)
require_end value [] = Ok value
require_end value (c ∷ cs) = Err (Syntax (c ∷ cs))

abbrev pub read_whole_text : {Kind A : Type 0} → Reader Kind A → List ℕ → Result A (Stop Kind)
read_whole_text p text = p text >>= λ x. require_end x.0 x.1
