-- The connections of a port, served one after the other. RFC 9112, section 9.
use Rattle.std.specs.Prelude.{◌≡◌, ℕ, ◌<◌, List, [], ◌∷◌, ◌++◌, length, Option, Some, IfSome}
use Rattle.http_wire.specs.declared.request.Request.{Request}
use Rattle.http_wire.specs.ServedConnections.{AreAllBytesOfEach, ServesAll, machine_on_stream}
use Rattle.http_wire.specs.declared.close_reason.CloseReason.{CloseReason}
use Rattle.http_wire.specs.declared.close_reason.CloseReason.TheVariants.{Closed}
use Rattle.xcap_io.specs.StreamStates.{StreamState, CountRises}
use Rattle.xcap_io.specs.Connections.{port_traffic}
use Rattle.xcap_io.specs.ConnectionHistories.{Traffic}
use Rattle.http_serve.specs.declared.accept_loop.ServeSummary.{ServeSummary}
use Rattle.http_serve.specs.declared.accept_loop.StopReason.{StopReason}
use Rattle.http_serve.specs.declared.accept_loop.StopReason.TheVariants.{Count, NoMore, PortFailed}
use Rattle.http_serve.specs.FixedReplies.{fixed_reply}
use Rattle.http_serve.specs.ServingStates.{ServingState}

-- how the last of some connections ended; `Closed` where there is none
abbrev pub last_ending : List CloseReason → CloseReason
last_ending [] = Closed
last_ending (ending ∷ []) = ending
last_ending (ending ∷ next ∷ endings) = last_ending (next ∷ endings)

-- Why no further connection was served: the wanted number was; none was to come, as the port
-- shows; or `next` failed, and its fault counter rose.
abbrev pub HasStopReason : StopReason → ℕ → ℕ → StreamState → StreamState → Type 0
HasStopReason Count most connections old new =
    (connections ≡ most) × (new.port.faults ≡ old.port.faults)
HasStopReason NoMore most connections old new =
    (connections < most) × (new.port.to_come ≡ Some []) × (new.port.faults ≡ old.port.faults)
HasStopReason PortFailed most connections old new =
    (connections < most) × CountRises old.port.faults new.port.faults

-- All bytes of connections with this traffic were the next ones to come, where the port shows
-- them, and the other connections are still to come.
abbrev pub TakesNextConnections : Option (List (List ℕ)) → Option (List (List ℕ)) → List Traffic
    → Type 0
TakesNextConnections old new connections =
    IfSome old (λ all.
    (came : List (List ℕ)) × (rest : List (List ℕ))
    × (all ≡ came ++ rest) × (new ≡ Some rest) × AreAllBytesOfEach came connections)

-- the wanted number of connections, and what was served
pub record ServeOutcome : Type 0 where
  pub most : ℕ
  pub served : ServeSummary

-- Connections with this traffic were served, at most the wanted number. `Keeps` relates watchers
-- before and after such edits.
pub record ServesPort {M W E : Type 0} (Step : M → Request → List ℕ → M → Option E → Type 0)
    (Keeps : List E → W → W → Type 0) (outcome : ServeOutcome) (old new : ServingState M W)
    : Type 0 where
  pub connections : List Traffic
  pub edits : List E
  pub count : length connections ≡ outcome.served.connections
  pub came : TakesNextConnections old.stream.port.to_come new.stream.port.to_come connections
  pub all_carried : port_traffic new.stream ≡ port_traffic old.stream ++ connections
  pub serves : ServesAll Step fixed_reply (machine_on_stream old.machine old.stream)
      (machine_on_stream new.machine new.stream) connections edits
  pub last : outcome.served.last ≡ last_ending serves.endings
  pub stop : HasStopReason outcome.served.stop outcome.most outcome.served.connections old.stream
      new.stream
  pub kept : Keeps edits old.watchers new.watchers
  pub same_listening : new.stream.port.listening ≡ old.stream.port.listening
  pub same_holds : new.stream.holds ≡ old.stream.holds
  pub same_aside : new.stream.aside ≡ old.stream.aside
  pub same_peer : new.stream.peer ≡ old.stream.peer
