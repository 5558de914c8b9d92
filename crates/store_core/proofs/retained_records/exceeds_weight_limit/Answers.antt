use Rattle.std.proofs.Common.{arith}
use Rattle.edit_ops.specs.DiffOperations.{weight}
use Rattle.store_core.proofs.Counts.{heavy-ring, light-ring, over, under}
use Rattle.store_core.proofs.Rings.{one-stays}
use Rattle.store_core.proofs.retained_records.exceeds_weight_limit.Goals as goal

pub returns-then-len-le1-clause-light_is_whole : goal.returns-then-len-le1-clause-light_is_whole
returns-then-len-le1-clause-light_is_whole c = λ light. one-stays weight c.args.notes.now.items (omega (arith, c.if-len-le1.true, c.len.ensures.len))

pub returns-clause-heavy_exceeds : goal.returns-clause-heavy_exceeds
returns-clause-heavy_exceeds c = λ heavy. (omega (arith, c.if-len-le1.false, c.len.ensures.len), heavy-ring c.args.notes.now c.args.count c.requires (over c.args.count heavy))

pub returns-clause-light_is_whole : goal.returns-clause-light_is_whole
returns-clause-light_is_whole c = λ light. light-ring c.args.notes.now c.args.count c.requires (under c.args.count light) (omega (arith, c.len.ensures.len, c.len.ensures.within.0))
