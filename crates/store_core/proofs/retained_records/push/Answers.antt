use Rattle.std.proofs.Common.{◌≡◌, ◌+◌, ◌≤◌, length, sym, ap, subst, arith}
use Rattle.circular_buffer.specs.Buffer.{Buffer}
use Rattle.edit_ops.specs.Notes.{Note}
use Rattle.store_core.specs.inner.RecordRings.{IsRecordRing, counted_weight, optional_weight}
use Rattle.store_core.proofs.Counts.{out, out-within, pushed-ring, small-count}
use Rattle.store_core.proofs.retained_records.push.Goals as goal

pub overflow_add-count : goal.overflow_add-count
overflow_add-count c =
    let small = small-count c.args.notes.now c.args.count.now c.requires (omega (arith, c.len-count.ensures.len, c.len-count.ensures.within.0)) in
    omega (arith, small, c.counted_weight.ensures.exact)

pub subtract_weight-requires : goal.subtract_weight-requires
subtract_weight-requires c =
    let within = out-within c.args.notes.now c.args.count.now c.args.note c.requires (omega (arith, c.len-count.ensures.len, c.len-count.ensures.within.0)) in
    omega (arith, within, ap optional_weight c.push_back.ensures.value, c.counted_weight.ensures.exact)

pub returns-clause-ring_counted : goal.returns-clause-ring_counted
returns-clause-ring_counted c =
    let few : length c.args.notes.now.items ≤ c.args.notes.now.capacity = omega (arith, c.len-count.ensures.len, c.len-count.ensures.within.0) in
    let left : c.subtract_weight.new.count + optional_weight (out c.args.notes.now c.args.count.now c.args.note c.requires few) ≡ c.args.count.now + counted_weight c.args.note = omega (arith, c.subtract_weight.ensures.count_less_record, ap optional_weight c.push_back.ensures.value, c.counted_weight.ensures.exact) in
    subst (λ (b : Buffer Note). IsRecordRing b c.subtract_weight.new.count) (sym c.push_back.ensures.items) (pushed-ring c.args.notes.now c.args.count.now c.args.note c.requires few c.subtract_weight.new.count left)
