-- One turn of a connection: the next request is answered, reported and replied to. RFC 9112,
-- sections 9.3 and 9.6.
use Rattle.std.specs.Prelude.{◌≡◌, ℕ, ◌+◌, false, List, ◌++◌, Option, None, Some}
use Rattle.std.specs.Prelude.{option_to_list}
use Rattle.http_wire.specs.declared.request.Request.{Request}
use Rattle.http_wire.specs.NextRequests.{RequestReaderState}
use Rattle.http_wire.specs.ServedConnections.{PendingInput, ItemAnswer, EndsConnection}
use Rattle.http_wire.specs.ServedConnections.{KeepsConnectionOpen}
use Rattle.xcap_io.specs.StreamStates.{StreamState}
use Rattle.xcap_io.specs.StreamTraffic.{GivesBytes, TakesBytes}
use Rattle.http_wire.specs.declared.close_reason.CloseReason.{CloseReason}
use Rattle.http_serve.specs.FixedReplies.{fixed_reply}

-- a connection at one moment, with what it is served with
pub record ConnectionState (M W : Type 0) : Type 0 where
  pub request_reader : RequestReaderState
  pub machine : M
  pub stream : StreamState
  pub watchers : W

module _ {M E : Type 0} (Step : M → Request → List ℕ → M → Option E → Type 0) where
  -- What a turn did: a request was answered, after which the connection goes on and these bytes
  -- are buffered; or the connection ended.
  abbrev pub MakesTurn : Option CloseReason → PendingInput → M → ItemAnswer M E → List ℕ → Type 0
  MakesTurn None input machine answer held =
      KeepsConnectionOpen Step fixed_reply input machine answer held
  MakesTurn (Some ended) input machine answer held =
      EndsConnection Step fixed_reply ended input machine answer

  -- Some bytes were read and some written, and the watchers were notified of the edit, if there
  -- was one.
  pub record ConnectionTurn {W : Type 0} (Keeps : List E → W → W → Type 0)
      (result : Option CloseReason) (old new : ConnectionState M W) : Type 0 where
    pub read : List ℕ
    pub written : List ℕ
    pub edit : Option E
    pub gave : GivesBytes old.stream.inward new.stream.inward read
    pub took : TakesBytes old.stream.taken new.stream.taken written
    pub did : MakesTurn result
        (record {
          before = old.request_reader.requests;
          given = old.request_reader.held ++ read;
          ended = new.stream.inward.ended;
        })
        old.machine (record { written = written; next = new.machine; edit = edit })
        new.request_reader.held
    pub kept : Keeps (option_to_list edit) old.watchers new.watchers

-- A reader that returned a request which doesn't close goes on.
pub record KeepsOpen (old new : RequestReaderState) : Type 0 where
  pub requests : new.requests ≡ old.requests + 1
  pub open_still : new.spent ≡ false
