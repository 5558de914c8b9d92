-- What a call on a socket returns that moved no byte.
use Rattle.std.specs.Prelude.{Result, Ok, Err, ⊤}
use Rattle.halls.specs.declared.hall.Progress.{Progress}
use Rattle.halls.specs.declared.hall.Progress.TheVariants.{Moved, Blocked}

-- no byte passed: the call waits, or it failed
abbrev pub MovesNothing : {E : Type 0} → Result Progress E → Type 0
MovesNothing (Ok (Moved count)) = ⊥
MovesNothing (Ok Blocked) = ⊤
MovesNothing (Err e) = ⊤
