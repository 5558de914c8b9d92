-- How much of a text comes before what ends it.
use Rattle.std.specs.Prelude.{◌≡◌, ℕ, ◌+◌, Bool, List, [], ◌∷◌, if◌then◌else◌, ◌==◌, ◌&&◌, ◌||◌}
use Rattle.std.specs.Prelude.{not, nat_le, chars}
use Rattle.xml_grammar.specs.TextReading.{first_char_is}
use Rattle.std.specs.Int.{is_in_range as within}

-- how many characters of a class the text begins with
abbrev pub run_len : (ℕ → Bool) → List ℕ → ℕ
run_len p [] = 0
run_len p (c ∷ cs) = if p c then run_len p cs + 1 else 0

-- a character that isn't a CR, and so is read in content as it is
abbrev pub is_not_return : ℕ → Bool
is_not_return c = not (c == 13)

-- a character that is read in a value as it is: none below the space
abbrev pub is_not_control : ℕ → Bool
is_not_control c = nat_le 32 c

abbrev pub is_ascii : ℕ → Bool
is_ascii c = nat_le c 127

-- the bytes of a text of these characters
abbrev pub HasChars : List ℕ → List ℕ → Type 0
HasChars run bytes = chars bytes ≡ run

-- a character above `&` and below the surrogates that isn't `<`, so that it is raw in values and
-- content
abbrev pub is_frequent_raw_char : ℕ → Bool
is_frequent_raw_char c = not (c == 60) && within 39 55295 c

-- a character above `]` and below the surrogates, a space or a line end: raw in content whatever
-- surrounds it
abbrev pub is_usual_content_char : ℕ → Bool
is_usual_content_char c = within 94 55295 c || c == 32 || c == 10

-- ASCII characters that are raw in content whatever surrounds them, and read as themselves: from
-- the space to the tilde but `&`, `<` and `]`, and a line end
abbrev pub is_plain_in_content : ℕ → Bool
is_plain_in_content c =
    within 94 126 c || c == 32 || c == 10 || within 61 92 c || within 33 37 c || within 39 59 c

-- ASCII characters that are so in a value, whatever its quotes are: from the space to the tilde
-- but `"`, `&`, `'` and `<`
abbrev pub is_plain_in_value : ℕ → Bool
is_plain_in_value c = within 40 59 c || within 61 126 c || within 35 37 c || c == 32 || c == 33

-- the name characters of ASCII: letters, digits, `-`, `.` and `_`
abbrev pub is_plain_in_name : ℕ → Bool
is_plain_in_name c =
    c == 45 || c == 46 || within 48 57 c || within 97 122 c || within 65 90 c || c == 95

-- this character or a `&` follows: so a `<` ends a run of content, and the quote a run in a value
abbrev pub ends_run : ℕ → List ℕ → Bool
ends_run end text = first_char_is (λ c. c == end || c == 38) text
