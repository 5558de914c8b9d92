-- What a command leaves of its input and its output. The project's own.
use Rattle.std.specs.Prelude.{◌≡◌}
use Rattle.xcap_io.specs.StreamStates.{StreamState}

-- Nothing of the input changed except the bytes that came in over it and its count of failed
-- reads.
pub record ReadsOnly (old new : StreamState) : Type 0 where
  pub same_taken : new.taken ≡ old.taken
  pub same_write_faults : new.write_faults ≡ old.write_faults
  pub same_holds : new.holds ≡ old.holds
  pub same_aside : new.aside ≡ old.aside
  pub same_port : new.port ≡ old.port
  pub same_peer : new.peer ≡ old.peer

-- Nothing of the output changed except the bytes that it took and its count of failed writes.
pub record WritesOnly (old new : StreamState) : Type 0 where
  pub same_inward : new.inward ≡ old.inward
  pub same_read_faults : new.read_faults ≡ old.read_faults
  pub same_holds : new.holds ≡ old.holds
  pub same_aside : new.aside ≡ old.aside
  pub same_port : new.port ≡ old.port
  pub same_peer : new.peer ≡ old.peer
