-- What a reader in the code returns: the result of the reading function, unless memory ran out.
-- This says more than `Answered`: the value is seen through a view, and a stop has the rest of the
-- text, from which a fault gets its place.
use Rattle.std.specs.Prelude.{◌≡◌, Result, Ok, Err, chars}
use Rattle.xml_grammar.specs.TextReading.{Stop, Syntax, Faulty}
use Rattle.xml_tokens.specs.declared.fault_kind.FaultKind.{FaultKind}
use Rattle.xml_tokens.specs.declared.parse_error.ParseError.{ParseError as CodeStop}
use Rattle.xml_tokens.specs.declared.parse_error.ParseError.TheVariants as stops

abbrev pub IsSameStop : {Y : Type 0} → CodeStop → Result Y (Stop FaultKind) → Type 0
IsSameStop (stops.Syntax rest) read = read ≡ Err (Syntax (chars rest.now))
IsSameStop (stops.Faulty kind rest) read = read ≡ Err (Faulty kind (chars rest.now))
IsSameStop stops.Memory read = Unit {0}

abbrev pub IsSameResult : {X Y : Type 0} → (X → Y) → Result X CodeStop → Result Y (Stop FaultKind)
    → Type 0
IsSameResult view (Ok x) read = read ≡ Ok (view x)
IsSameResult view (Err e) read = IsSameStop e read

-- the result of a reader that leaves nothing
abbrev pub IsSameWholeResult : {X : Type 0} → Result X CodeStop → Result X (Stop FaultKind) → Type 0
IsSameWholeResult (Ok x) read = read ≡ Ok x
IsSameWholeResult (Err e) read = IsSameStop e read
