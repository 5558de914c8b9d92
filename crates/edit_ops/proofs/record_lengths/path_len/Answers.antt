use Rattle.std.proofs.Common.{arith}
use Rattle.edit_ops.proofs.Values.{written-at}
use Rattle.edit_ops.proofs.record_lengths.path_len.Goals as goal

pub loop-number-preserved : goal.loop-number-preserved
loop-number-preserved c =
    let next = written-at c.numbers-number-items.result.now c.loop-number.number-index c.loop-number-test.true in
    record { fits = omega arith; counted = omega (arith, next) }
