-- The fault counters of a connection that may go on.
use Rattle.std.specs.Prelude.{◌≡◌, Option, None, Some}
use Rattle.xcap_io.specs.StreamStates.{StreamState}
use Rattle.http_wire.specs.declared.close_reason.CloseReason.{CloseReason}
use Rattle.http_serve.specs.FaultCounts.{CountsFaultOfReason}

-- the fault counters by the close reason, or while the connection is open
abbrev pub CountsFaultOfEnding : Option CloseReason → StreamState → StreamState → Type 0
CountsFaultOfEnding None old new =
    (new.read_faults ≡ old.read_faults) × (new.write_faults ≡ old.write_faults)
CountsFaultOfEnding (Some ended) old new =
    CountsFaultOfReason ended old.read_faults new.read_faults old.write_faults new.write_faults
