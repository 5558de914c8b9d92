-- How the body of a response was read.
use Rattle.std.specs.Prelude.{ℕ, List, ◌++◌, Result}
use Rattle.xcap_io.specs.StreamStates.{InputState}
use Rattle.xcap_io.specs.StreamTraffic.{GivesBytes}
use Rattle.xcap_client.specs.declared.response_fault.ResponseFault.{ResponseFault}
use Rattle.xcap_client.specs.declared.body_length.BodyLength.{BodyLength}
use Rattle.xcap_client.specs.ReadFaults.{HoldsByCause}
use Rattle.xcap_client.specs.BodyLengths.{body_of_length, NeedsMoreBody}
use Rattle.xcap_client.specs.inner.ReadBuffer.{SettlesValue}

-- Bytes were read after those in the buffer, and the body is in them all; where a read failed,
-- they don't decide.
pub record ReadsBody (body_len : BodyLength) (held : List ℕ) (source source' : InputState)
    (result : Result (List ℕ) ResponseFault) : Type 0 where
  pub read : List ℕ
  pub given : GivesBytes source source' read
  pub body : HoldsByCause result (NeedsMoreBody body_len (held ++ read))
      (SettlesValue (body_of_length body_len) (held ++ read) source')
