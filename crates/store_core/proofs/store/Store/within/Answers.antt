use Rattle.std.proofs.Common.{◌-◌, arith}
use Rattle.store_core.proofs.ChangeSteps.{first-storing}
use Rattle.store_core.proofs.store.Store.within.Goals as goal

pub invariant_of-result : goal.invariant_of-result
invariant_of-result c =
    first-storing c.new.result.entries c.new-2.result.entries c.args.limits c.args.first (c.args.first - 1) c.new.ensures.empty c.new-2.ensures.empty c.requires.number_given c.requires.limits_countable (omega (arith, c.requires.number_given))
