use Rattle.std.proofs.Common.{◌≢◌, [], arith}
use Rattle.edit_ops.proofs.Values.{written-prefixed}
use Rattle.edit_ops.proofs.record_lengths.name_len.Goals as goal

pub returns : goal.returns
returns c = record {
  exact =
      let prefixed : c.args.name.now.prefix ≢ [] = λ e. cc (c.is_empty.ensures.exact.1 e) in
      let whole = written-prefixed c.args.name.now prefixed in
      omega (arith, whole);
}
