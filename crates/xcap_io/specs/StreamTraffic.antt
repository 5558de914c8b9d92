-- What a read and a write add to the traffic of a stream. This is the project's own.
use Rattle.std.specs.Prelude.{◌≡◌, ℕ, ◌==◌, List, ◌++◌, take, true, Result, MatchResult}
use Rattle.std.specs.Io.KnownBytes.{Consumes, IsAtEnd}
use Rattle.xcap_io.specs.StreamStates.{InputState}

-- where the last read found the end, nothing is left, as far as the stream shows it
abbrev pub HasNothingAfterEnd : InputState → Type 0
HasNothingAfterEnd now = now.ended ≡ true → IsAtEnd now.left

-- The bytes were given, after those given before. Where the stream shows what is left, they were
-- the next of it.
pub record GivesBytes (old new : InputState) (bytes : List ℕ) : Type 0 where
  pub behind : new.given ≡ old.given ++ bytes
  pub consumed : Consumes old.left new.left bytes
  pub truthful : HasNothingAfterEnd old → HasNothingAfterEnd new

-- the last read found the end, and nothing is left, as far as the stream shows it
abbrev pub IsEnded : InputState → Type 0
IsEnded now = (now.ended ≡ true) × IsAtEnd now.left

-- At `Ok(n)` a read gave the n bytes that it put at the front of the buffer; n is 0 at the end. At
-- a failure it gave nothing.
abbrev pub GivesReadBytes : {E : Type 0} → InputState → InputState → Result ℕ E → List ℕ → Type 0
GivesReadBytes old new result buf = MatchResult result
    (λ n. GivesBytes old new (take n buf) × (new.ended ≡ (n == 0)) × (n ≡ 0 → IsAtEnd new.left))
    (λ _. new ≡ old)

-- the bytes were handed over, after the earlier ones
abbrev pub TakesBytes : List ℕ → List ℕ → List ℕ → Type 0
TakesBytes old new bytes = new ≡ old ++ bytes

-- at `Ok(n)` a write handed over the first n bytes of the piece, and at a failure none
abbrev pub TakesWrittenBytes : {E : Type 0} → List ℕ → List ℕ → Result ℕ E → List ℕ → Type 0
TakesWrittenBytes old new result piece =
    MatchResult result (λ n. TakesBytes old new (take n piece)) (λ _. new ≡ old)
