-- One connection, served to its end. RFC 9112, section 9.
use Rattle.std.specs.Prelude.{◌≡◌, ℕ, List, Option}
use Rattle.http_wire.specs.declared.request.Request.{Request}
use Rattle.http_wire.specs.ServedConnections.{ServesConnection}
use Rattle.xcap_io.specs.ConnectionHistories.{Traffic}
use Rattle.xcap_io.specs.StreamTraffic.{GivesBytes, TakesBytes}
use Rattle.http_wire.specs.declared.close_reason.CloseReason.{CloseReason}
use Rattle.http_serve.specs.FaultCounts.{OnlyExchangesBytes, CountsFaultOfReason}
use Rattle.http_serve.specs.FixedReplies.{fixed_reply}
use Rattle.http_serve.specs.ServingStates.{ServingState}

-- A connection was served: the bytes that its reads gave, whether the last read found the end, and
-- the bytes that its writes handed over are this traffic; and these edits were reported to the
-- watchers, in order. `Keeps` relates watchers before and after such edits.
pub record ServesStream {M W E : Type 0} (Step : M → Request → List ℕ → M → Option E → Type 0)
    (Keeps : List E → W → W → Type 0) (ended : CloseReason) (old new : ServingState M W)
    : Type 0 where
  pub passed : Traffic
  pub edits : List E
  pub gave : GivesBytes old.stream.inward new.stream.inward passed.given
  pub found_end : passed.ended ≡ new.stream.inward.ended
  pub took : TakesBytes old.stream.taken new.stream.taken passed.taken
  pub serves : ServesConnection Step fixed_reply ended old.machine passed new.machine edits
  pub kept : Keeps edits old.watchers new.watchers
  pub faults : CountsFaultOfReason ended old.stream.read_faults new.stream.read_faults
      old.stream.write_faults new.stream.write_faults
  pub exchanges : OnlyExchangesBytes old.stream new.stream
