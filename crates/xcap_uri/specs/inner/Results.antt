-- What a reader of the code returns: the result of its reading function, or out of memory. This
-- says more than `Answered` (`xml_tree/Memory`): the reading function's result has the call's own
-- type, and the two are equal, or equal by a view. The meaning of a target is stated by
-- `Answered`.
use Rattle.std.specs.Prelude.{◌≡◌, ◌⊎◌, Result, Ok, Err}
use Rattle.xml_names.specs.declared.read_error.ReadError.TheVariants.{NoMemory}
use Rattle.xcap_uri.specs.readers.Steps.{UriError}

-- the stated result, or this one, which means out of memory
abbrev pub IsStatedOr : {T E : Type 0} → E → Result T E → Result T E → Type 0
IsStatedOr memory stated r = (r ≡ stated) ⊎ (r ≡ Err memory)

-- the stated result, seen by this view, or out of memory
abbrev pub GivesStated : {X Y : Type 0} → (X → Y) → Result X UriError → Result Y UriError → Type 0
GivesStated view (Ok x) stated = stated ≡ Ok (view x)
GivesStated view (Err fault) stated = (stated ≡ Err fault) ⊎ (fault ≡ NoMemory)
