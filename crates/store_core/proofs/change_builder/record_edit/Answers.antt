use Rattle.std.proofs.Common.{sym, ap, subst, ◌∙◌}
use Rattle.xml_tree.specs.Tree.{Tree}
use Rattle.edit_ops.specs.Changes.{FitsTree}
use Rattle.edit_ops.specs.declared.change.Change.{Change}
use Rattle.edit_ops.specs.Notes.{Note, note_of}
use Rattle.store_core.specs.inner.ChangePlans.{IsEditStep}
use Rattle.store_core.specs.inner.Prints.{IsInsertedPrint}
use Rattle.store_core.proofs.change_builder.record_edit.Goals as goal

pub edit_step-requires : goal.edit_step-requires
edit_step-requires c =
    let changed = ap (λ (n : Note). n.change) c.in_ok-note.ensures.ok in
    record {
      fits = subst (λ (x : Change). FitsTree c.root-tree.result.now x) (sym changed) (subst (λ (t : Tree). FitsTree t c.args.change) (sym c.root-tree.ensures.exact) c.requires.fits);
      print_of_part = subst (λ (x : Change). IsInsertedPrint x c.args.put.print) (sym changed) c.requires.print_of_part;
    }

pub returns : goal.returns
returns c =
    let v = c.args.entry.now in
    record {
      change_record = c.in_ok-note.ensures.ok ∙ ap (λ (t : Tree). note_of v.tag c.args.number t c.args.change) c.root-tree.ensures.exact;
      staged_edit = subst (λ (t : Tree). IsEditStep t c.in_ok-note.note c.args.len c.in_ok-step.step) c.root-tree.ensures.exact c.in_ok-step.ensures.stages_change;
    }
