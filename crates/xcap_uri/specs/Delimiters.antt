-- Texts cut at a character: the front, the rest, all pieces.
use Rattle.std.specs.Prelude.{ℕ, ◌==◌, nat_eq, List, [], ◌∷◌, Option, None, Some, if◌then◌else◌}
use Rattle.std.specs.List.{onto_first}
use Rattle.xml_tokens.specs.Tokens.{is_different_char}
use Rattle.xml_grammar.specs.TextReading.{take_while, drop_while}

abbrev pub after_first : List ℕ → Option (List ℕ)
after_first [] = None
after_first (b ∷ bs) = Some bs

-- what comes before the first `stop`: all, where there is none
abbrev pub front_before : ℕ → List ℕ → List ℕ
front_before stop text = take_while (is_different_char stop) text

-- what comes after the first `stop`, where there is one
abbrev pub rest_after : ℕ → List ℕ → Option (List ℕ)
rest_after stop text = after_first (drop_while (is_different_char stop) text)

-- the pieces between the `stop`s: one more than the number of `stop`s
abbrev pub pieces : ℕ → List ℕ → List (List ℕ)
pieces stop [] = [] ∷ []
pieces stop (b ∷ bs) = if b == stop then [] ∷ pieces stop bs else onto_first b (pieces stop bs)

-- what comes after a front of a text, if the text begins with it
abbrev pub rest_after_front : List ℕ → List ℕ → Option (List ℕ)
rest_after_front [] text = Some text
rest_after_front (c ∷ cs) [] = None
rest_after_front (c ∷ cs) (d ∷ text) = if nat_eq c d then rest_after_front cs text else None
