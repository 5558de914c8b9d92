-- The change records of a document in a ring, and their counted weights.
use Rattle.std.specs.Prelude.{◌≡◌, ℕ, ◌+◌, Option, None, Some, min, sum_by}
use Rattle.circular_buffer.specs.Buffer.{Buffer}
use Rattle.edit_ops.specs.Notes.{Note}
use Rattle.edit_ops.specs.DiffOperations.{weight}
use Rattle.store_core.specs.declared.limits.TheConstants.{MAX_NOTES, MAX_WEIGHT}

-- the counted weight of a record: its weight, capped at one byte more than the limit of all
-- together, so that sums stay small; they exceed the limit exactly where the sum of weights does
abbrev pub counted_weight : Note → ℕ
counted_weight n = min (weight n) (MAX_WEIGHT + 1)

abbrev pub optional_weight : Option Note → ℕ
optional_weight None = 0
optional_weight (Some n) = counted_weight n

-- the ring has capacity for the records that may be retained, and the sum of their counted weights
-- is `count`
pub record IsRecordRing (ring : Buffer Note) (count : ℕ) : Type 0 where
  pub room : ring.capacity ≡ MAX_NOTES
  pub sum : count ≡ sum_by counted_weight ring.items
