-- The chunked decoder as a state machine: its state, and the next state after each byte.
-- `ChunkedBodies` says what a chunked body is; that both agree is proved.
use Rattle.std.specs.Prelude.{◌≡◌, ℕ, ◌+◌, ◌-◌, ◌*◌, ◌≤◌, min, Bool, true, false, not, ◌==◌, nat_lt}
use Rattle.std.specs.Prelude.{nat_le, if◌then◌else◌, List, [], ◌∷◌, ◌++◌, length}
use Rattle.std.specs.Char.{digit_value}
use Rattle.httparse.specs.Ascii.{line_feed, carriage_return, semicolon}
use Rattle.httparse.specs.Grammar.{is_ows, is_value_byte}
use Rattle.http_wire.specs.declared.chunk_decoder.ChunkState.{ChunkState}
use Rattle.http_wire.specs.declared.chunk_decoder.ChunkState.TheVariants.{Size, Blank, Extension}
use Rattle.http_wire.specs.declared.chunk_decoder.ChunkState.TheVariants.{SizeEnd, Data, DataEnd}
use Rattle.http_wire.specs.declared.chunk_decoder.ChunkState.TheVariants.{Trailers, Trailer}
use Rattle.http_wire.specs.declared.chunk_decoder.ChunkState.TheVariants.{TrailerEnd, LastEnd, Done}
use Rattle.http_wire.specs.declared.chunk_decoder.ChunkState.TheVariants.{Bad, TooLong}
use Rattle.http_wire.specs.declared.limits.TheConstants.{MAX_BODY_BYTES, MAX_DIGITS, MAX_LINE}
use Rattle.http_wire.specs.declared.limits.TheConstants.{MAX_TRAILER_BYTES}

-- the decoder's state, and the data of the chunks so far, joined
pub record Decoding : Type 0 where
  pub stage : ChunkState
  pub body : List ℕ

-- a decoding made of its parts
abbrev pub decoding : ChunkState → List ℕ → Decoding
decoding stage body = record { stage = stage; body = body }

-- the state before the first byte
abbrev pub initial_decoding : Decoding
initial_decoding = decoding (Size 0 0) []

-- no further byte changes the state
abbrev pub is_settled : ChunkState → Bool
is_settled (Size digits value) = false
is_settled (Blank value len) = false
is_settled (Extension value len) = false
is_settled (SizeEnd value) = false
is_settled (Data left) = false
is_settled DataEnd = false
is_settled (Trailers used) = false
is_settled (Trailer used) = false
is_settled (TrailerEnd used) = false
is_settled LastEnd = false
is_settled Done = true
is_settled Bad = true
is_settled TooLong = true

-- a byte after the digits of a chunk line that has n bytes so far
abbrev pub state_after_digits : ℕ → ℕ → ℕ → ChunkState
state_after_digits value len b =
    if b == carriage_return then SizeEnd value
    else if nat_le MAX_LINE len then Bad
    else if is_ows b then Blank value (len + 1)
    else if b == semicolon then Extension value (len + 1)
    else Bad

-- a byte of a chunk line that has only digits so far; a number beyond the limit is recorded as the
-- limit plus 1
abbrev pub state_in_digits : ℕ → ℕ → ℕ → ChunkState
state_in_digits digits value b =
    if nat_lt (digit_value b) 16
    then (if nat_lt digits MAX_DIGITS
    then Size (digits + 1) (min (value * 16 + digit_value b) (MAX_BODY_BYTES + 1))
    else Bad)
    else if digits == 0 then Bad
    else state_after_digits value digits b

-- a byte of an extension
abbrev pub state_in_extension : ℕ → ℕ → ℕ → ChunkState
state_in_extension value len b =
    if b == carriage_return then SizeEnd value
    else if nat_le MAX_LINE len then Bad
    else if is_value_byte b then Extension value (len + 1)
    else Bad

-- the byte that ends a chunk line with this number, after chunks with n bytes
abbrev pub state_after_line : ℕ → ℕ → ℕ → ChunkState
state_after_line value decoded b =
    if not (b == line_feed) then Bad
    else if value == 0 then Trailers 0
    else if nat_le (decoded + value) MAX_BODY_BYTES then Data value
    else TooLong

-- a byte after the data of a chunk
abbrev pub state_after_data : ℕ → ChunkState
state_after_data b = if b == carriage_return then DataEnd else Bad

-- a byte before or in a trailer line, where all trailer lines have n bytes so far
abbrev pub state_in_trailers : ℕ → ℕ → ChunkState → ChunkState
state_in_trailers used b end =
    if b == carriage_return then end
    else if b == line_feed then Bad
    else if nat_le (used + 3) MAX_TRAILER_BYTES then Trailer (used + 1)
    else Bad

-- the expected line feed
abbrev pub state_if_line_feed : ℕ → ChunkState → ChunkState
state_if_line_feed b next = if b == line_feed then next else Bad

-- the state after the next byte, after chunks with n bytes; data bytes are joined to those
abbrev pub next_state : ChunkState → ℕ → ℕ → ChunkState
next_state (Size digits value) decoded b = state_in_digits digits value b
next_state (Blank value len) decoded b = state_after_digits value len b
next_state (Extension value len) decoded b = state_in_extension value len b
next_state (SizeEnd value) decoded b = state_after_line value decoded b
next_state (Data left) decoded b = if left == 0 then state_after_data b else Data (left - 1)
next_state DataEnd decoded b = state_if_line_feed b (Size 0 0)
next_state (Trailers used) decoded b = state_in_trailers used b LastEnd
next_state (Trailer used) decoded b = state_in_trailers used b (TrailerEnd (used + 1))
next_state (TrailerEnd used) decoded b = state_if_line_feed b (Trailers (used + 1))
next_state LastEnd decoded b = state_if_line_feed b Done
next_state Done decoded b = Done
next_state Bad decoded b = Bad
next_state TooLong decoded b = TooLong

-- the next byte is data of a chunk
abbrev pub expects_data : ChunkState → Bool
expects_data (Size digits value) = false
expects_data (Blank value len) = false
expects_data (Extension value len) = false
expects_data (SizeEnd value) = false
expects_data (Data left) = not (left == 0)
expects_data DataEnd = false
expects_data (Trailers used) = false
expects_data (Trailer used) = false
expects_data (TrailerEnd used) = false
expects_data LastEnd = false
expects_data Done = false
expects_data Bad = false
expects_data TooLong = false

-- the decoding after one more byte
abbrev pub next_decoding : Decoding → ℕ → Decoding
next_decoding d b =
    decoding (next_state d.stage (length d.body) b)
    (if expects_data d.stage then d.body ++ b ∷ [] else d.body)

-- all the bytes are read, and none of them after the state is settled
abbrev pub DecodesBytes : Decoding → List ℕ → Decoding → Type 0
DecodesBytes d [] new = new ≡ d
DecodesBytes d (b ∷ bytes) new =
    (is_settled d.stage ≡ false) × DecodesBytes (next_decoding d b) bytes new

-- the numbers of a state are within the limits, and the chunk's missing bytes fit the body
abbrev pub IsWithinLimits : ChunkState → ℕ → Type 0
IsWithinLimits (Size digits value) decoded =
    (digits ≤ MAX_DIGITS) × (value ≤ MAX_BODY_BYTES + 1) × (decoded ≤ MAX_BODY_BYTES)
IsWithinLimits (Blank value len) decoded =
    (value ≤ MAX_BODY_BYTES + 1) × (len ≤ MAX_LINE) × (decoded ≤ MAX_BODY_BYTES)
IsWithinLimits (Extension value len) decoded =
    (value ≤ MAX_BODY_BYTES + 1) × (len ≤ MAX_LINE) × (decoded ≤ MAX_BODY_BYTES)
IsWithinLimits (SizeEnd value) decoded = (value ≤ MAX_BODY_BYTES + 1) × (decoded ≤ MAX_BODY_BYTES)
IsWithinLimits (Data left) decoded = decoded + left ≤ MAX_BODY_BYTES
IsWithinLimits DataEnd decoded = decoded ≤ MAX_BODY_BYTES
IsWithinLimits (Trailers used) decoded = (used ≤ MAX_TRAILER_BYTES) × (decoded ≤ MAX_BODY_BYTES)
IsWithinLimits (Trailer used) decoded = (used + 2 ≤ MAX_TRAILER_BYTES) × (decoded ≤ MAX_BODY_BYTES)
IsWithinLimits (TrailerEnd used) decoded =
    (used + 1 ≤ MAX_TRAILER_BYTES) × (decoded ≤ MAX_BODY_BYTES)
IsWithinLimits LastEnd decoded = decoded ≤ MAX_BODY_BYTES
IsWithinLimits Done decoded = decoded ≤ MAX_BODY_BYTES
IsWithinLimits Bad decoded = decoded ≤ MAX_BODY_BYTES
IsWithinLimits TooLong decoded = decoded ≤ MAX_BODY_BYTES

-- an upper bound of how many more bytes can be read before the state is settled
abbrev pub bytes_left : ChunkState → ℕ → ℕ
bytes_left (Size digits value) decoded = (MAX_BODY_BYTES + 1 - decoded) * 1000 + 20_000 - digits
bytes_left (Blank value len) decoded = (MAX_BODY_BYTES + 1 - decoded) * 1000 + 20_000 - len
bytes_left (Extension value len) decoded = (MAX_BODY_BYTES + 1 - decoded) * 1000 + 20_000 - len
bytes_left (SizeEnd value) decoded = (MAX_BODY_BYTES + 1 - decoded) * 1000 + 19_700
bytes_left (Data left) decoded = (MAX_BODY_BYTES + 1 - (decoded + left)) * 1000 + 20_002 + left
bytes_left DataEnd decoded = (MAX_BODY_BYTES + 1 - decoded) * 1000 + 20_001
bytes_left (Trailers used) decoded = 17_000 - used
bytes_left (Trailer used) decoded = 17_000 - used
bytes_left (TrailerEnd used) decoded = 17_000 - used
bytes_left LastEnd decoded = 1
bytes_left Done decoded = 0
bytes_left Bad decoded = 0
bytes_left TooLong decoded = 0
