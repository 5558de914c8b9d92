-- The values of tokens: line ends and white space as they are read, the values of attributes, and
-- names.
use Rattle.std.specs.Prelude.{ℕ, Bool, true, false, codes, List, [], ◌∷◌, ◌++◌, ◌==◌, if◌then◌else◌}
use Rattle.std.specs.Prelude.{◌||◌, Option, None, Some}
use Rattle.xml_names.specs.declared.names.Name.{Name}
use Rattle.std.specs.Char.{to_ascii_lowercase}
use Rattle.std.specs.List.{cons_option}
use Rattle.std.specs.Option.{option_map_or}
use Rattle.xml_grammar.specs.TextReading.{first_char_is}

-- Line ends (XML 1.0, 2.11): CR LF, and a CR (13) that no LF (10) follows, are read as LF. So a
-- CR before an LF is read as nothing.
abbrev pub normalized_line_char : ℕ → List ℕ → Option ℕ
normalized_line_char c after =
    if c == 13 then (if first_char_is (λ d. d == 10) after then None else Some 10) else Some c

abbrev pub normalize_line_ends : List ℕ → List ℕ
normalize_line_ends [] = []
normalize_line_ends (c ∷ cs) = cons_option (normalized_line_char c cs) (normalize_line_ends cs)

-- White space in values (XML 1.0, 3.3.3): a tab (9) and an LF (10) that are raw are read as
-- spaces (32).
abbrev pub normalized_space : ℕ → ℕ
normalized_space c = if c == 9 || c == 10 then 32 else c

abbrev pub normalize_spaces : List ℕ → List ℕ
normalize_spaces [] = []
normalize_spaces (c ∷ cs) = normalized_space c ∷ normalize_spaces cs

-- raw characters of a value
abbrev pub normalized_raw : List ℕ → List ℕ
normalized_raw cs = normalize_spaces (normalize_line_ends cs)

-- characters from references, each with the raw characters that follow it
abbrev pub pieces_value : List (ℕ × List ℕ) → List ℕ
pieces_value [] = []
pieces_value ((c, cs) ∷ pieces) = c ∷ (normalized_raw cs ++ pieces_value pieces)

-- a value: raw characters, and then references with what follows them
abbrev pub normalized_value : List ℕ × List (ℕ × List ℕ) → List ℕ
normalized_value x = normalized_raw x.0 ++ pieces_value x.1

-- a name without a prefix, or with one
abbrev pub qname_of : List ℕ × Option (List ℕ) → Name
qname_of x =
    option_map_or (λ local. record { prefix = x.0; local = local }) x.1
    (record { prefix = []; local = x.0 })

-- a name as written
abbrev pub qname_text_of : List ℕ → List ℕ → List ℕ
qname_text_of [] l = l
qname_text_of (c ∷ cs) l = (c ∷ cs) ++ (codes ":" ++ l)

abbrev pub qname_text : Name → List ℕ
qname_text n = qname_text_of n.prefix n.local

-- whether two words are equal ignoring ASCII case, the second being in lower-case letters
abbrev pub equals_ignoring_case : List ℕ → List ℕ → Bool
equals_ignoring_case [] [] = true
equals_ignoring_case [] (d ∷ ds) = false
equals_ignoring_case (c ∷ cs) [] = false
equals_ignoring_case (c ∷ cs) (d ∷ ds) =
    if to_ascii_lowercase c == d then equals_ignoring_case cs ds else false
