-- Where all bytes are known, what was served by the bytes given is what all bytes give.
use Rattle.std.proofs.Common.{◌≡◌, ℕ, List, ◌++◌, Option, Some, subst}
use Rattle.edit_ops.specs.declared.edit.Edit.{Edit}
use Rattle.store_core.specs.State.{State}
use Rattle.xcap_io.specs.StreamTraffic.{HasNothingAfterEnd}
use Rattle.http_wire.specs.ServedConnections.{AreAllBytesOfEach, ServesConnection, ServesEach, counted_traffic, counted_traffics}
use Rattle.http_wire.proofs.KnownTraffic.{counts, counts_each}
use Rattle.http_serve.specs.ServedStreams.{ServesStream}
use Rattle.http_serve.specs.FixedReplies.{fixed_reply}
use Rattle.http_serve.specs.ServedPorts.{TakesNextConnections, ServeOutcome, ServesPort}
use Rattle.http_serve.specs.ServingStates.{ServingState}
use Rattle.http_wire.specs.declared.close_reason.CloseReason.{CloseReason}
use Rattle.http_serve.proofs.Ports.{has_bytes}
use Rattle.xcap_machine.specs.Machine.{ValidStep}
use Rattle.http_serve.specs.ReplyBytes.{StepsInBytes}

module _ {W : Type 0} (Keeps : List Edit → W → W → Type 0) where
  pub line_counts : (root : List ℕ) (ended : CloseReason) (old new : ServingState State W) (bytes : List ℕ) → old.stream.inward.left ≡ Some bytes → HasNothingAfterEnd old.stream.inward
      → (served : ServesStream (StepsInBytes (ValidStep root)) Keeps ended old new)
      → ServesConnection (StepsInBytes (ValidStep root)) fixed_reply ended old.machine (counted_traffic ended bytes served.passed) new.machine served.edits
  line_counts root ended old new bytes told truthful served =
      counts (StepsInBytes (ValidStep root)) fixed_reply ended old.machine new.machine served.edits bytes served.passed
      (has_bytes old.stream.inward new.stream.inward bytes served.passed told truthful served.gave served.found_end) served.serves

  pub port_counts : (root : List ℕ) (outcome : ServeOutcome) (old new : ServingState State W) (all : List (List ℕ)) → old.stream.port.to_come ≡ Some all
      → (served : ServesPort (StepsInBytes (ValidStep root)) Keeps outcome old new)
      → (came : List (List ℕ)) × (rest : List (List ℕ)) × (all ≡ came ++ rest) × (new.stream.port.to_come ≡ Some rest) × AreAllBytesOfEach came served.connections
      × ServesEach (StepsInBytes (ValidStep root)) fixed_reply old.machine (counted_traffics served.connections came served.serves.endings) served.serves.endings new.machine served.edits
  port_counts root outcome old new all told served =
      let came : TakesNextConnections (Some all) new.stream.port.to_come served.connections = subst (λ (t : Option (List (List ℕ))). TakesNextConnections t new.stream.port.to_come served.connections) told served.came in
      (came.0, came.1, came.2, came.3, came.4, counts_each (StepsInBytes (ValidStep root)) fixed_reply old.machine new.machine served.edits came.0 served.connections served.serves.endings came.4 served.serves.each)
