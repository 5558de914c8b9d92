-- What the ending of a connection says about the fault counters. This is the project's own.
use Rattle.std.specs.Prelude.{◌≡◌, ℕ}
use Rattle.xcap_io.specs.StreamStates.{StreamState, CountRises}
use Rattle.http_wire.specs.declared.close_reason.CloseReason.{CloseReason}
use Rattle.http_wire.specs.declared.close_reason.CloseReason.TheVariants.{Closed, ReadFailed}
use Rattle.http_wire.specs.declared.close_reason.CloseReason.TheVariants.{WriteFailed}

-- The counter of the reads or writes that failed rose where that was the close reason, else both
-- are unchanged.
abbrev pub CountsFaultOfReason : CloseReason → ℕ → ℕ → ℕ → ℕ → Type 0
CountsFaultOfReason Closed reads reads' writes writes' = (reads' ≡ reads) × (writes' ≡ writes)
CountsFaultOfReason ReadFailed reads reads' writes writes' =
    CountRises reads reads' × (writes' ≡ writes)
CountsFaultOfReason WriteFailed reads reads' writes writes' =
    (reads' ≡ reads) × CountRises writes writes'

-- Only reads and writes of one connection happened between the two states, if anything did.
pub record OnlyExchangesBytes (old new : StreamState) : Type 0 where
  pub same_holds : new.holds ≡ old.holds
  pub same_aside : new.aside ≡ old.aside
  pub same_port : new.port ≡ old.port
  pub same_peer : new.peer ≡ old.peer
