use Rattle.usage_docs.specs.readers.ContentParts.{end_part}
use Rattle.edit_plans.proofs.SideLemmas.{end_behind, fits_is}
use Rattle.edit_plans.proofs.insertion_points.fits_after_last.Goals as goal

pub returns : goal.returns
returns c = record {
  exact =
      fits_is c.args.parent.now.kind c.args.parent.now.scope.now c.args.parent.now.element.now.content c.args.new.now c.args.many c.args.itself c.may_stand_between.result c.part_before_child-left.result c.part_in-part.result end_part
      c.requires.itself_valid c.part_in-part.ensures.child_part c.part_before_child-left.ensures.exact (end_behind c.args.parent.now.kind c.args.parent.now.scope.now c.args.parent.now.element.now.content c.args.many c.requires.children_counted) c.may_stand_between.ensures.exact;
}
