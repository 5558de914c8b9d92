use Rattle.std.proofs.Common.{inl, inr, refl}
use Rattle.node_select.proofs.ListEdits.{length_removed}
use Rattle.xml_tree.specs.Tree.{child_elements_of}
use Rattle.edit_plans.proofs.ParentAnswers.{true_false}
use Rattle.edit_plans.proofs.replace_child.replacement_in_parent.Goals as goal

pub returns-then-not-passes_step : goal.returns-then-not-passes_step
returns-then-not-passes_step c = record { replacement_plan = inl (refl, λ p. true_false c.passes_step.result (c.passes_step.ensures.exact.1 p) c.if-not-passes_step.true) }

pub returns-then-not-fits_replacing : goal.returns-then-not-fits_replacing
returns-then-not-fits_replacing c = record { replacement_plan = inr (inl (refl, c.passes_step.ensures.exact.0 c.if-not-passes_step.false, λ f. true_false c.fits_replacing.result (c.fits_replacing.ensures.exact.1 f) c.if-not-fits_replacing.true)) }

pub check_new_child-requires-clause-gap_in_range : goal.check_new_child-requires-clause-gap_in_range
check_new_child-requires-clause-gap_in_range c =
    length_removed (child_elements_of c.args.parent.now.element.now) c.args.child c.requires.selected.1.this.child_element c.requires.selected.1.this.there

pub returns : goal.returns
returns c = record {
  replacement_plan =
      inr (inr (c.passes_step.ensures.exact.0 c.if-not-passes_step.false, c.fits_replacing.ensures.exact.0 c.if-not-fits_replacing.false, c.check_new_child.ensures.judged_by_rules));
}
