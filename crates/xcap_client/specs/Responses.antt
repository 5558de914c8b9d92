-- The meaning of a connection's bytes for a client that waits for a response (RFC 9112, sections 4
-- to 6), and the result of a call that reads them. Of a connection only the bytes count that were
-- given on it, and whether a read found their end; so this also says what came over a real socket.
use Rattle.std.specs.Prelude.{◌≡◌, ℕ, ◌⊎◌, Bool, true, List, ◌++◌, map, Option, Result, Ok, Err}
use Rattle.xcap_io.specs.StreamStates.{InputState}
use Rattle.xcap_io.specs.StreamTraffic.{GivesBytes}
use Rattle.httparse.specs.Grammar.{ResponseHead, status_code}
use Rattle.httparse.specs.Spans.{name_and_value}
use Rattle.xcap_client.specs.declared.response_fault.ResponseFault.{ResponseFault}
use Rattle.xcap_client.specs.declared.response_fault.ResponseFault.TheVariants.{Head}
use Rattle.xcap_client.specs.declared.body_length.BodyLength.{BodyLength}
use Rattle.xcap_client.specs.declared.response.Response.{Response}
use Rattle.xcap_client.specs.ReadFaults.{HoldsByCause}
use Rattle.xcap_client.specs.ResponseHeads.{BeginsWithHead, HasNoHead}
use Rattle.xcap_client.specs.ResponseTags.{IsTagOf}
use Rattle.xcap_client.specs.BodyLengths.{body_length_of, body_result, NeedsMoreBody}

-- the length of the body after the head
abbrev pub body_length_of_head : ResponseHead → Result BodyLength ResponseFault
body_length_of_head head = body_length_of (status_code head) (map name_and_value head.fields)

-- the response with that head, tag and body
abbrev pub response_of : ResponseHead → Option (List ℕ) → List ℕ → Response
response_of head tag body = record { status = status_code head; tag = tag; body = body }

-- The meaning of all bytes of a connection: there is no head; or the head, or the bytes after it,
-- have a fault; or they are a response, with any bytes after its body.
pub data IsResponseOf (bytes : List ℕ) (answer : Result Response ResponseFault) : Type 0 where
  no_head : HasNoHead bytes → answer ≡ Err Head → IsResponseOf bytes answer
  refused : (head : ResponseHead) (rest : List ℕ) (fault : ResponseFault)
      → BeginsWithHead bytes head rest
      → body_result (body_length_of_head head) rest ≡ Err fault → answer ≡ Err fault
      → IsResponseOf bytes answer
  responds : (head : ResponseHead) (rest : List ℕ) (tag : Option (List ℕ)) (body : List ℕ)
      → BeginsWithHead bytes head rest
      → IsTagOf (map name_and_value head.fields) tag
      → body_result (body_length_of_head head) rest ≡ Ok body
      → answer ≡ Ok (response_of head tag body) → IsResponseOf bytes answer

-- These bytes were given, and this is the meaning of the connection's bytes: however they go on,
-- or as a read found their end.
abbrev pub IsDecidedResponse : List ℕ → Bool → Result Response ResponseFault → Type 0
IsDecidedResponse given ended answer =
    ((more : List ℕ) → IsResponseOf (given ++ more) answer)
    ⊎ ((ended ≡ true) × IsResponseOf given answer)

-- These bytes don't decide the meaning: there is no head in them, or more of the body is due.
pub data DecidesNothing (bytes : List ℕ) : Type 0 where
  lacks_head : HasNoHead bytes → DecidesNothing bytes
  lacks_body : (head : ResponseHead) (rest : List ℕ) (body_len : BodyLength)
      → BeginsWithHead bytes head rest
      → body_length_of_head head ≡ Ok body_len → NeedsMoreBody body_len rest → DecidesNothing bytes

-- Bytes were read from the source, and the result is their meaning; where a read failed, they
-- don't decide.
pub record ReadsAnswer (source source' : InputState)
    (result : Result Response ResponseFault) : Type 0 where
  pub read : List ℕ
  pub given : GivesBytes source source' read
  pub answer : HoldsByCause result (DecidesNothing read) (IsDecidedResponse read source'.ended)
