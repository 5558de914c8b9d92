use Rattle.std.proofs.Common.{length, ap, arith}
use Rattle.edit_ops.specs.declared.staged_change.Staged.TheVariants.{Child}
use Rattle.edit_ops.proofs.staged_change.stage_child.Goals as goal

pub returns : goal.returns
returns c = record {
  child_with_room =
      let room = c.in_ok-room.room in (
        room,
        ap (λ e. Child e room) c.in_ok-element.ensures.equal_copy,
        (c.in_ok-room.ensures.items, omega (arith, c.in_ok-room.ensures.exact, ap length c.nodes.ensures.content_nodes)),
      );
}
