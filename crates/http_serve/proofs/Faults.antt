-- Fault counters over a connection.
use Rattle.std.proofs.Common.{◌≡◌, ℕ, subst, ◌∙◌}
use Rattle.xcap_io.specs.StreamStates.{StreamState, CountRises}
use Rattle.http_wire.specs.declared.close_reason.CloseReason.{CloseReason}
use Rattle.http_wire.specs.declared.close_reason.CloseReason.TheVariants.{Closed, ReadFailed, WriteFailed}
use Rattle.http_serve.specs.FaultCounts.{CountsFaultOfReason}

-- counters that are unchanged, and then those of how it ended
pub faults_on : (ended : CloseReason) (old mid new : StreamState) → mid.read_faults ≡ old.read_faults → mid.write_faults ≡ old.write_faults
    → CountsFaultOfReason ended mid.read_faults new.read_faults mid.write_faults new.write_faults → CountsFaultOfReason ended old.read_faults new.read_faults old.write_faults new.write_faults
faults_on Closed old mid new reads writes f = (f.0 ∙ reads, f.1 ∙ writes)
faults_on ReadFailed old mid new reads writes f = (subst (λ (n : ℕ). CountRises n new.read_faults) reads f.0, f.1 ∙ writes)
faults_on WriteFailed old mid new reads writes f = (f.0 ∙ reads, subst (λ (n : ℕ). CountRises n new.write_faults) writes f.1)
