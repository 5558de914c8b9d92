-- The order of faults: the first of several is reported.
use Rattle.std.specs.Prelude.{◌≡◌, ◌⊎◌, Result, Err}
use Rattle.xcap_uri.specs.declared.fault.UriFault.{UriFault}

-- where there is such a value, the result is the one of what follows with it; where there is none,
-- it is this fault
abbrev pub FirstOrFault : {A B : Type 0} → (A → Type 0) → UriFault
    → (A → Result B UriFault → Type 0)
    → Result B UriFault → Type 0
FirstOrFault {A} {B} Is fault Next answer =
    ((a : A) × Is a × Next a answer) ⊎ (((a : A) → Is a → ⊥) × (answer ≡ Err fault))

-- where this holds, the result is the one of what follows; where it doesn't, it is this fault
abbrev pub HoldsOrFault : {B : Type 0} → Type 0 → UriFault → (Result B UriFault → Type 0)
    → Result B UriFault → Type 0
HoldsOrFault Holds fault Next answer = (Holds × Next answer) ⊎ ((Holds → ⊥) × (answer ≡ Err fault))
