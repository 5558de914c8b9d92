use Rattle.std.proofs.Common.{sym, ap, ◌∙◌}
use Rattle.store_core.specs.TreeChanges.{edits_within_root}
use Rattle.store_core.proofs.PutLengths.{brought_print}
use Rattle.store_core.proofs.Wholes.{brings-whole, whole-edited}
use Rattle.store_core.proofs.change_builder.stage_tree.Goals as goal

pub of-requires : goal.of-requires
of-requires c =
    brings-whole c.args.root.now c.args.note.now.change c.requires.fits
    (ap edits_within_root (sym c.change-change.ensures.exact) ∙ sym c.edits_within_root.ensures.ok ∙ c.if-edits_within_root.false)

pub of-tree-requires : goal.of-tree-requires
of-tree-requires c = brought_print c.args.note.now.change c.in_ok-noted.noted c.args.print c.in_ok-noted.ensures.ok c.requires.print_of_part

pub returns : goal.returns
returns c = record {
  stages_change =
      c.of-tree.ensures.exact
      ∙ c.in_ok-noted.ensures.ok
      ∙ whole-edited c.args.root.now c.args.note.now.change c.requires.fits
      (ap edits_within_root (sym c.change-change.ensures.exact) ∙ sym c.edits_within_root.ensures.ok ∙ c.if-edits_within_root.false);
}
