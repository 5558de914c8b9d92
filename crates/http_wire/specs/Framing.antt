-- The framing of a body by the fields of its head (RFC 9112, sections 3.2 and 6.3).
use Rattle.std.specs.Prelude.{ℕ, ◌==◌, nat_lt, nat_le, Bool, not, ◌&&◌, ◌||◌, if◌then◌else◌, List}
use Rattle.std.specs.Prelude.{[], ◌∷◌, length, codes}
use Rattle.std.specs.Str.Parse.{digits_value}
use Rattle.http_wire.specs.declared.framing.Framing.{Framing}
use Rattle.http_wire.specs.declared.framing.Framing.TheVariants.{Bad, Coded, TooLong, Length}
use Rattle.http_wire.specs.declared.framing.Framing.TheVariants.{Chunked}
use Rattle.http_wire.specs.declared.limits.TheConstants.{MAX_BODY_BYTES}
use Rattle.http_wire.specs.Fields.{same_ignoring_case, field_values, is_number}

-- HTTP/1.1 requires exactly one `Host`
unfoldable pub lacks_host : ℕ → List (List ℕ × List ℕ) → Bool
lacks_host minor fields = (minor == 1) && not (length (field_values (codes "host") fields) == 1)

-- by the values of `Content-Length`: a number within the limit, or none where there is no body; a
-- body beyond MAX_BODY_BYTES, 262,144 bytes, is `TooLong`, and its request gets a 413
unfoldable pub framing_of_lengths : List (List ℕ) → Framing
framing_of_lengths [] = Length 0
framing_of_lengths (value ∷ []) =
    if not (is_number value) then Bad
    else if nat_le (digits_value 10 value) MAX_BODY_BYTES then Length (digits_value 10 value)
    else TooLong
framing_of_lengths (value ∷ other ∷ more) = Bad

-- by the values of `Transfer-Encoding` and then of `Content-Length`: the one coding is `chunked`,
-- which HTTP/1.0 doesn't have, and there is no Content-Length with it
unfoldable pub framing_of_codings : ℕ → List (List ℕ) → List (List ℕ) → Framing
framing_of_codings minor [] lengths = framing_of_lengths lengths
framing_of_codings minor (coding ∷ []) lengths =
    if not (same_ignoring_case coding (codes "chunked")) then Coded
    else if (minor == 0) || nat_lt 0 (length lengths) then Bad else Chunked
framing_of_codings minor (coding ∷ other ∷ more) lengths = Coded

-- by the minor version, and the names and values of the fields
unfoldable pub framing : ℕ → List (List ℕ × List ℕ) → Framing
framing minor fields =
    if lacks_host minor fields then Bad
    else framing_of_codings minor (field_values (codes "transfer-encoding") fields)
    (field_values (codes "content-length") fields)
