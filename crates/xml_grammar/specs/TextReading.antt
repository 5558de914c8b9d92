-- Reading a text from left to right: why reading stops, tests of what comes next, and the reading
-- functions that small public calls equal. Reading functions for the other ways to make a rule
-- are in `readers`.
use Rattle.std.specs.Prelude.{ℕ, Bool, true, false, List, [], ◌∷◌, Result, Ok, Err, if◌then◌else◌}
use Rattle.std.specs.Prelude.{nat_eq}

-- Why reading stops, with the rest of the text at that place.
pub data Stop (Kind : Type 0) : Type 0 where
  Syntax : (left : List ℕ) → Stop Kind  -- after the longest beginning
  Faulty : (kind : Kind) → (left : List ℕ) → Stop Kind  -- at the place that a fault marks

-- A reading function.
abbrev pub Reader : Type 0 → Type 0 → Type 0
Reader Kind A = List ℕ → Result (A × List ℕ) (Stop Kind)

-- the next step, unless reading stopped
infixl 10 ◌>>=◌
abbrev pub ◌>>=◌ : {Kind A B : Type 0} → Result A (Stop Kind) → (A → Result B (Stop Kind))
    → Result B (Stop Kind)
(Ok x) >>= f = f x
(Err e) >>= f = Err e

-- # Tests of what comes next

-- the first character, if there is one, passes
abbrev pub first_char_is : (ℕ → Bool) → List ℕ → Bool
first_char_is p [] = false
first_char_is p (c ∷ cs) = p c

-- the text begins with the word
abbrev pub starts_with_word : List ℕ → List ℕ → Bool
starts_with_word [] text = true
starts_with_word (c ∷ cs) [] = false
starts_with_word (c ∷ cs) (d ∷ text) = if nat_eq c d then starts_with_word cs text else false

-- the characters of a class at the front of the text, and what follows them
abbrev pub take_while : (ℕ → Bool) → List ℕ → List ℕ
take_while p [] = []
take_while p (c ∷ cs) = if p c then (c ∷ take_while p cs) else []

abbrev pub drop_while : (ℕ → Bool) → List ℕ → List ℕ
drop_while p [] = []
drop_while p (c ∷ cs) = if p c then drop_while p cs else (c ∷ cs)

-- # Rules that contain no other rule

abbrev pub read_one_char : {Kind : Type 0} → (ℕ → Bool) → Reader Kind ℕ
read_one_char p [] = Err (Syntax [])
read_one_char p (c ∷ rest) = if p c then Ok (c, rest) else Err (Syntax (c ∷ rest))

abbrev pub read_word : {Kind : Type 0} → List ℕ → Reader Kind (Unit {0})
read_word [] text = Ok (tt, text)
read_word (c ∷ cs) [] = Err (Syntax [])
read_word (c ∷ cs) (d ∷ rest) = if nat_eq c d then read_word cs rest else Err (Syntax (d ∷ rest))

abbrev pub read_run : {Kind : Type 0} → (ℕ → Bool) → Reader Kind (List ℕ)
read_run p text = Ok (take_while p text, drop_while p text)

-- # Rules made of others

abbrev pub read_sequence : {Kind A B : Type 0} → Reader Kind A → (A → Reader Kind B)
    → Reader Kind (A × B)
read_sequence p q text = p text >>= λ x. q x.0 x.1 >>= λ y. Ok ((x.0, y.0), y.1)

abbrev pub read_mapped : {Kind A B : Type 0} → (A → B) → Reader Kind A → Reader Kind B
read_mapped f p text = p text >>= λ x. Ok (f x.0, x.1)

abbrev pub read_one_or_more : {Kind : Type 0} → (ℕ → Bool) → Reader Kind (List ℕ)
read_one_or_more p =
    read_mapped (λ x. x.0 ∷ x.1) (read_sequence (read_one_char p) (λ _. read_run p))
