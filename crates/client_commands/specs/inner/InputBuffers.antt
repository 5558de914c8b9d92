-- What came into a buffer.
use Rattle.std.specs.Prelude.{ℕ, ◌<◌, ◌≤◌, List, length, take, Result, MatchResult}
use Rattle.xcap_io.specs.StreamStates.{InputState}
use Rattle.xcap_io.specs.StreamTraffic.{GivesBytes, IsEnded}

-- A buffer was filled from its front: this many bytes came, and where it isn't full the input
-- ended after them. At a failure fewer bytes came than fit.
abbrev pub FillsBuffer : {E : Type 0} → Result ℕ E → List ℕ → InputState → InputState → Type 0
FillsBuffer result buffer input input' =
    MatchResult result
    (λ n.
    (n ≤ length buffer) × GivesBytes input input' (take n buffer)
    × (n < length buffer → IsEnded input'))
    (λ _. (n : ℕ) × (n < length buffer) × GivesBytes input input' (take n buffer))
