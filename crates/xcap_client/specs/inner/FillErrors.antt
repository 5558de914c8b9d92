-- Why reading a response stopped, and which count shows it.
use Rattle.std.specs.Prelude.{◌≡◌, ℕ, Result, Ok, Err}
use Rattle.xcap_io.specs.StreamStates.{CountRises}
use Rattle.xcap_client.specs.declared.response_fault.FillError.{FillError}
use Rattle.xcap_client.specs.declared.response_fault.FillError.TheVariants as stops
use Rattle.xcap_client.specs.declared.response_fault.ResponseFault.{ResponseFault}
use Rattle.xcap_client.specs.declared.response_fault.ResponseFault.TheVariants as faults

-- the count rose where a read failed, and else it is unchanged
abbrev pub CountsFillError : {T : Type 0} → ℕ → ℕ → Result T FillError → Type 0
CountsFillError before now (Ok x) = now ≡ before
CountsFillError before now (Err stops.ReadFailed) = CountRises before now
CountsFillError before now (Err stops.NoMemory) = now ≡ before

-- the fault is one that the fields of a head can have
abbrev pub IsFieldFault : ResponseFault → Type 0
IsFieldFault faults.Coding = Unit {0}
IsFieldFault faults.Length = Unit {0}
IsFieldFault (faults.TooLong n) = Unit {0}
IsFieldFault _ = ⊥
