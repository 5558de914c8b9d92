-- What a sink took, and what is buffered for it. This is the project's own.
use Rattle.std.specs.Prelude.{◌≡◌, ℕ, List, ◌++◌, Result, MatchResult}
use Rattle.xcap_io.specs.StreamStates.{StreamState, OnlyWrites}
use Rattle.xcap_io.specs.StreamTraffic.{TakesBytes}
use Rattle.xcap_io.specs.StreamWrites.{TakesProperPrefix}

-- A sink, and the bytes that are buffered for it.
pub record BufferedSink : Type 0 where
  pub sink : StreamState
  pub held : List ℕ

-- the bytes were handed over or are buffered, after what was buffered before
abbrev pub WritesOrBuffers : BufferedSink → BufferedSink → List ℕ → Type 0
WritesOrBuffers old new bytes =
    (over : List ℕ) × TakesBytes old.sink.taken new.sink.taken over
    × (old.held ++ bytes ≡ over ++ new.held)

-- All bytes were handed over or are buffered; or at a failure a proper prefix of the buffered
-- bytes and these was handed over.
pub record BuffersBytes {E : Type 0} (old new : BufferedSink) (result : Result (Unit {0}) E)
    (bytes : List ℕ) : Type 0 where
  pub taken : MatchResult result (λ _. WritesOrBuffers old new bytes) (λ _.
      TakesProperPrefix old.sink.taken new.sink.taken (old.held ++ bytes))
  pub only_writes : OnlyWrites old.sink new.sink result
