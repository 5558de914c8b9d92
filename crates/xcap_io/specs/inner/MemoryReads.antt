-- How far reads of a stream in memory may go.
use Rattle.std.specs.Prelude.{◌≡◌, ℕ, ◌-◌, ◌<◌, ◌≤◌, min, Option, None, Some}

-- how many of the wanted bytes may be given before the offset where reads fail
abbrev pub IsMaxReadLen : ℕ → ℕ → Option ℕ → Option ℕ → Type 0
IsMaxReadLen wanted given None result = result ≡ Some wanted
IsMaxReadLen wanted given (Some place) None = place ≤ given
IsMaxReadLen wanted given (Some place) (Some most) =
    (given < place) × (most ≡ min wanted (place - given))
