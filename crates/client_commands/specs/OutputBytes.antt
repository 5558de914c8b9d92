-- What a stream took of a text. The project's own.
use Rattle.std.specs.Prelude.{◌≡◌, ℕ, List}
use Rattle.xcap_io.specs.StreamStates.{StreamState, CountRises, DiffersByWrites}
use Rattle.xcap_io.specs.StreamTraffic.{TakesBytes}
use Rattle.xcap_io.specs.StreamWrites.{TakesProperPrefix}

-- The stream took all these bytes, without a fault, and nothing else changed.
pub record WritesAllBytes (bytes : List ℕ) (old new : StreamState) : Type 0 where
  pub taken : TakesBytes old.taken new.taken bytes
  pub counts : new.write_faults ≡ old.write_faults
  pub writes : DiffersByWrites old new

-- The stream failed, and its count of failed writes rose; it took a proper prefix of these bytes,
-- and nothing else changed.
pub record WritesSomeBytes (bytes : List ℕ) (old new : StreamState) : Type 0 where
  pub taken : TakesProperPrefix old.taken new.taken bytes
  pub counts : CountRises old.write_faults new.write_faults
  pub writes : DiffersByWrites old new
