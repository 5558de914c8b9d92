-- What the fields of a head say (RFC 9110, sections 5.1, 5.6.1 and 7.6.1). A field is its name and
-- its value, without the spaces and tabs at the value's ends.
use Rattle.std.specs.Prelude.{◌≡◌, ℕ, ◌≤◌, ◌==◌, nat_lt, Bool, ◌&&◌, if◌then◌else◌, List, [], ◌∷◌}
use Rattle.std.specs.Prelude.{length, map, codes}
use Rattle.std.specs.Str.{bytes_eq}
use Rattle.std.specs.List.{list_all, list_any, slice_split}
use Rattle.std.specs.Char.{to_ascii_lowercase, is_ascii_digit}
use Rattle.httparse.specs.Ascii.{comma}
use Rattle.httparse.specs.Grammar.{trim_ows}
use Rattle.http_wire.specs.declared.framing.FieldLookup.{FieldLookup}
use Rattle.http_wire.specs.declared.framing.FieldLookup.TheVariants.{Absent, Once, Repeated}

-- the two byte strings are equal, ignoring the case of letters
abbrev pub same_ignoring_case : List ℕ → List ℕ → Bool
same_ignoring_case a b = bytes_eq (map to_ascii_lowercase a) (map to_ascii_lowercase b)

-- the values of the fields of that name, in order
abbrev pub field_values : List ℕ → List (List ℕ × List ℕ) → List (List ℕ)
field_values name [] = []
field_values name (field ∷ fields) =
    if same_ignoring_case field.0 name then field.1 ∷ field_values name fields
    else field_values name fields

-- the result of looking up a field that has these values
abbrev pub IsLookupOf : FieldLookup → List (List ℕ) → Type 0
IsLookupOf Absent values = values ≡ []
IsLookupOf (Once value) values = values ≡ value.now ∷ []
IsLookupOf Repeated values = 2 ≤ length values

-- one digit or more, and nothing else
abbrev pub is_number : List ℕ → Bool
is_number bytes = nat_lt 0 (length bytes) && list_all is_ascii_digit bytes

-- one of the parts between commas is `close`
unfoldable pub has_close_option : List ℕ → Bool
has_close_option value =
    list_any (λ part. same_ignoring_case (trim_ows part) (codes "close"))
    (slice_split (λ b. b == comma) value)

-- a `Connection` field asks to end the connection after the reply
unfoldable pub asks_to_close : List (List ℕ × List ℕ) → Bool
asks_to_close fields = list_any has_close_option (field_values (codes "connection") fields)
