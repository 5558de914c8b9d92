-- What a comment may contain (XML 1.0, fifth edition, section 2.5).
--     [15] Comment ::= '<!--' ((Char - '-') | ('-' (Char - '-')))* '-->'
use Rattle.std.specs.Prelude.{ℕ, Bool, true, not, ◌&&◌, ◌==◌, List, [], ◌∷◌}
use Rattle.std.specs.List.{list_all}
use Rattle.xml_names.specs.Characters.{is_char}

-- a Char that a reader keeps as it is: a CR (13) is read as a line feed (section 2.11), so no
-- tree contains one
abbrev pub is_comment_char : ℕ → Bool
is_comment_char c = is_char c && not (c == 13)

-- no two hyphens (45) are adjacent, and the last character isn't a hyphen
abbrev pub has_no_double_hyphen : List ℕ → Bool
has_no_double_hyphen [] = true
has_no_double_hyphen (c ∷ []) = not (c == 45)
has_no_double_hyphen (c ∷ d ∷ cs) = not (c == 45 && d == 45) && has_no_double_hyphen (d ∷ cs)

-- a text that a comment can contain and that is read back as it is
abbrev pub is_comment : List ℕ → Bool
is_comment text = list_all is_comment_char text && has_no_double_hyphen text
