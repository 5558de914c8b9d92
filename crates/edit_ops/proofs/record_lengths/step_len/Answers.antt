use Rattle.std.proofs.Common.{◌≡◌, ◌+◌, suc, [], arith}
use Rattle.std.specs.Fmt.{decimal}
use Rattle.edit_ops.specs.inner.OperationLengths.{value_text_len}
use Rattle.edit_ops.proofs.Values.{no_steps, written-decimal, written-step}
use Rattle.edit_ops.proofs.record_lengths.step_len.Goals as goal

pub returns : goal.returns
returns c = record {
  exact =
      let n = c.args.number in let k = c.ilog10.result in
      let digits : value_text_len (decimal (suc n)) ≡ k + 1
      = written-decimal k (suc n) (omega (arith, c.ilog10.ensures.power_le)) (omega (arith, c.ilog10.ensures.next_power_gt)) (omega (arith, c.ranges.number.fits)) in
      omega (arith, digits, written-step n [], no_steps);
}
