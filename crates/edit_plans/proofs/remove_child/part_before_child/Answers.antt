use Rattle.std.proofs.Common.{◌≡◌, ◌-◌, suc, sym, ap, ◌∙◌, arith}
use Rattle.std.specs.Option.{option_copied}
use Rattle.edit_plans.proofs.SideLemmas.{before_kid}
use Rattle.edit_plans.proofs.remove_child.part_before_child.Goals as goal

pub returns : goal.returns
returns c = record {
  exact =
      let other = c.if-child-eq0.false in
      let step : c.args.child ≡ suc (c.args.child - 1) = omega (arith, other) in
      before_kid c.args.parent.now.kind c.args.parent.now.scope.now c.args.parent.now.element.now.content (c.args.child - 1) c.args.child c.in-Some.child_element.now c.part_in.result step (sym c.child_element.ensures.exact ∙ ap option_copied c.in-Some.is) c.part_in.ensures.child_part;
}
