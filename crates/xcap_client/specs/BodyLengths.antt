-- The length of a response's body (RFC 9112, section 6.3), by its status and its fields, and the
-- body in the bytes after the head.
use Rattle.std.specs.Prelude.{ℕ, ◌+◌, ◌<◌, ◌≤◌, ◌==◌, nat_lt, min, Bool, not, ◌||◌, if◌then◌else◌}
use Rattle.std.specs.Prelude.{List, [], ◌∷◌, length, take, codes, Result, Ok, Err}
use Rattle.std.specs.Str.Parse.{digits_value}
use Rattle.xml_names.specs.Limits.{u64_max}
use Rattle.http_wire.specs.Fields.{field_values, is_number}
use Rattle.xcap_client.specs.declared.response_fault.ResponseFault.{ResponseFault}
use Rattle.xcap_client.specs.declared.response_fault.ResponseFault.TheVariants.{Coding, Length}
use Rattle.xcap_client.specs.declared.response_fault.ResponseFault.TheVariants.{TooLong, Short}
use Rattle.xcap_client.specs.declared.body_length.BodyLength.{BodyLength}
use Rattle.xcap_client.specs.declared.body_length.BodyLength.TheVariants.{Empty, Exactly, ToEnd}
use Rattle.xcap_client.specs.declared.body_length.TheConstants.{MAX_RESPONSE_BODY_BYTES}

-- the number that digits write, or the greatest of 64 bits where the number is greater
abbrev pub capped_value : List ℕ → ℕ
capped_value digits = min (digits_value 10 digits) u64_max

-- a body of this many bytes, where they are within the limit
abbrev pub exact_body_length : ℕ → Result BodyLength ResponseFault
exact_body_length n = if nat_lt MAX_RESPONSE_BODY_BYTES n then Err (TooLong n) else Ok (Exactly n)

-- By the values of `Content-Length`: without one the body goes to the end of the bytes; more than
-- one, or one that is no number, is a fault, also where a status has no body.
unfoldable pub length_by_field : Bool → List (List ℕ) → Result BodyLength ResponseFault
length_by_field bodiless [] = if bodiless then Ok Empty else Ok ToEnd
length_by_field bodiless (value ∷ []) =
    if not (is_number value) then Err Length
    else if bodiless then Ok Empty else exact_body_length (capped_value value)
length_by_field bodiless (value ∷ other ∷ more) = Err Length

-- By the status, and the names and values of the fields. No transfer coding is accepted. No
-- Content (204) and Not Modified (304) come without a body.
unfoldable pub body_length_of : ℕ → List (List ℕ × List ℕ) → Result BodyLength ResponseFault
body_length_of status fields =
    if nat_lt 0 (length (field_values (codes "transfer-encoding") fields)) then Err Coding
    else length_by_field ((status == 204) || (status == 304))
    (field_values (codes "content-length") fields)

-- the body, where these are all bytes after the head
abbrev pub body_of_length : BodyLength → List ℕ → Result (List ℕ) ResponseFault
body_of_length Empty rest = Ok []
body_of_length (Exactly n) rest =
    if nat_lt (length rest) n then Err (Short (length rest) n) else Ok (take n rest)
body_of_length ToEnd rest =
    if nat_lt MAX_RESPONSE_BODY_BYTES (length rest) then Err (TooLong (MAX_RESPONSE_BODY_BYTES + 1))
    else Ok rest

-- the body, where the head may have a fault
abbrev pub body_result : Result BodyLength ResponseFault → List ℕ → Result (List ℕ) ResponseFault
body_result (Ok body_len) rest = body_of_length body_len rest
body_result (Err fault) rest = Err fault

-- these bytes after the head don't decide: more are due, or their end
abbrev pub NeedsMoreBody : BodyLength → List ℕ → Type 0
NeedsMoreBody Empty rest = ⊥
NeedsMoreBody (Exactly n) rest = length rest < n
NeedsMoreBody ToEnd rest = length rest ≤ MAX_RESPONSE_BODY_BYTES
