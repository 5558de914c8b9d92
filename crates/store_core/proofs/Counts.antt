-- The counted weights of a ring's records.
use Rattle.std.proofs.Common.{◌≡◌, ℕ, ◌+◌, ◌<◌, ◌≤◌, nat_lt, true, false, cond, [], ◌∷◌, ◌++◌, length, slice_get, Option, None, Some, refl, arith}
use Rattle.std.proofs.lemmas.Bool.Decides.{nat_tests}
use Rattle.circular_buffer.specs.Buffer.{Buffer, buffer, keep_last}
use Rattle.edit_ops.specs.Notes.{Note}
use Rattle.edit_ops.specs.DiffOperations.{weight}
use Rattle.store_core.specs.State.{is_within_retention, retained_notes}
use Rattle.store_core.specs.inner.RecordRings.{IsRecordRing, counted_weight, optional_weight}
use Rattle.store_core.proofs.Rings.{counts-all, counts-less, light-stays, sum-bound, sum-pushed, sum_in, too-heavy}

pub over : (n : ℕ) → nat_lt 65536 n ≡ true → 65536 < n
over n h = grind (arith, nat_tests)

pub under : (n : ℕ) → nat_lt 65536 n ≡ false → n ≤ 65536
under n h = grind (arith, nat_tests)

pub heavy-ring : (ring : Buffer Note) (count : ℕ) → IsRecordRing ring count → 65536 < count → is_within_retention weight ring.items ≡ false
heavy-ring ring count r h = too-heavy weight ring.items (omega (arith, counts-less weight ring.items, r.sum, h))

pub light-ring : (ring : Buffer Note) (count : ℕ) → IsRecordRing ring count → count ≤ 65536 → length ring.items ≤ ring.capacity → retained_notes ring.items ≡ ring.items
light-ring ring count r h few =
    let all = counts-all weight ring.items (omega (arith, r.sum, h)) in
    light-stays weight ring.items (omega (arith, all, r.sum, h)) (omega (arith, few, r.room))

-- a count stays small
pub small-count : (ring : Buffer Note) (count : ℕ) → IsRecordRing ring count → length ring.items ≤ ring.capacity → count ≤ 4194368
small-count ring count r few =
    let bound = sum-bound counted_weight ring.items (λ n. omega arith) in
    omega (arith, bound, r.sum, r.room, few)

in-one : (o : Option Note) → sum_in counted_weight o ≡ optional_weight o
in-one None = refl
in-one (Some n) = refl

module _ (ring : Buffer Note) (count : ℕ) (note : Note) (r : IsRecordRing ring count) (few : length ring.items ≤ ring.capacity) where
  abbrev pub out : Option Note
  out = cond (nat_lt (length ring.items) ring.capacity) None (slice_get (ring.items ++ note ∷ []) 0)

  pub out-within : optional_weight out ≤ count + counted_weight note
  out-within = omega (arith, sum-pushed counted_weight ring.capacity ring.items note r.room few, in-one out, r.sum)

  -- with one more record
  pub pushed-ring : (after : ℕ) → after + optional_weight out ≡ count + counted_weight note → IsRecordRing (buffer (keep_last ring.capacity (ring.items ++ note ∷ [])) ring.capacity) after
  pushed-ring after e = record { room = r.room; sum = omega (arith, sum-pushed counted_weight ring.capacity ring.items note r.room few, in-one out, r.sum, e) }
