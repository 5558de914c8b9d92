-- Results of calls that may run out of memory.
use Rattle.std.specs.Prelude.{Result, Ok, Err}
use Rattle.xml_names.specs.declared.read_error.ReadError.{ReadError}
use Rattle.xml_names.specs.declared.read_error.ReadError.TheVariants.{Fault, NoMemory}

-- a result that satisfies this, or out of memory
abbrev pub ResultSatisfies : {A F : Type 0} → (Result A F → Type 0) → Result A (ReadError F)
    → Type 0
ResultSatisfies Holds (Ok value) = Holds (Ok value)
ResultSatisfies Holds (Err (Fault fault)) = Holds (Err fault)
ResultSatisfies Holds (Err NoMemory) = Unit {0}

-- the fault satisfies this; out of memory nothing has to hold
abbrev pub FaultSatisfies : {F : Type 0} → (F → Type 0) → ReadError F → Type 0
FaultSatisfies Holds (Fault fault) = Holds fault
FaultSatisfies Holds NoMemory = Unit {0}
