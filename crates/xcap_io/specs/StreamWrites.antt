-- What a write of one or more pieces leaves. This is the project's own.
use Rattle.std.specs.Prelude.{ℕ, ◌<◌, ◌≤◌, List, length, take, Result, MatchResult, IfOk}
use Rattle.xcap_io.specs.StreamTraffic.{TakesBytes}

-- a proper prefix of these bytes was taken
abbrev pub TakesProperPrefix : List ℕ → List ℕ → List ℕ → Type 0
TakesProperPrefix old new bytes = (n : ℕ) × (n < length bytes) × TakesBytes old new (take n bytes)

-- all bytes were taken, or at a failure a proper prefix of them
abbrev pub WritesAll : {E : Type 0} → List ℕ → List ℕ → Result (Unit {0}) E → List ℕ → Type 0
WritesAll old new result bytes =
    MatchResult result (λ _. TakesBytes old new bytes) (λ _. TakesProperPrefix old new bytes)

-- on `Ok(n)` the sink took at least one byte, and at most all of them
abbrev pub WritesSome : {E : Type 0} → Result ℕ E → List ℕ → Type 0
WritesSome result bytes = IfOk result (λ n. (0 < n) × (n ≤ length bytes))
