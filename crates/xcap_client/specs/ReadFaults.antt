-- Why reading stops, and how the source's count of failed reads shows it. The project's own.
use Rattle.std.specs.Prelude.{◌≡◌, ℕ, Result, Err}
use Rattle.xcap_io.specs.StreamStates.{CountRises}
use Rattle.xcap_client.specs.declared.response_fault.FillError.{FillError}
use Rattle.xcap_client.specs.declared.response_fault.FillError.TheVariants as stops
use Rattle.xcap_client.specs.declared.response_fault.ResponseFault.{ResponseFault}
use Rattle.xcap_client.specs.declared.response_fault.ResponseFault.TheVariants as faults

-- the fault of a response for a failure to fill the buffer
abbrev pub response_fault_of : FillError → ResponseFault
response_fault_of stops.ReadFailed = faults.ReadFailed
response_fault_of stops.NoMemory = faults.NoMemory

-- the count rose where a read failed, and else it is unchanged
abbrev pub CountsReadFault : {T : Type 0} → ℕ → ℕ → Result T ResponseFault → Type 0
CountsReadFault before now (Err faults.ReadFailed) = CountRises before now
CountsReadFault before now _ = now ≡ before

-- By the cause of a result: where a read failed, `Lacks`; out of memory, nothing; and else `Said`
-- of the result.
abbrev pub HoldsByCause : {T : Type 0} → Result T ResponseFault → Type 0
    → (Result T ResponseFault → Type 0) → Type 0
HoldsByCause (Err faults.ReadFailed) Lacks Said = Lacks
HoldsByCause (Err faults.NoMemory) Lacks Said = Unit {0}
HoldsByCause result Lacks Said = Said result
