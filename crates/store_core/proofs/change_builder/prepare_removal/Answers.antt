use Rattle.std.proofs.Common.{◌≡◌, ℕ, List, [], false, ap, ◌∙◌}
use Rattle.xml_tree.specs.Tree.{Tree, last}
use Rattle.edit_ops.specs.declared.change.Change.TheVariants.{RemoveDocument}
use Rattle.edit_ops.specs.Notes.{Note}
use Rattle.store_core.specs.declared.step.EntryStep.TheVariants.{End}
use Rattle.store_core.specs.PreparedChanges.{PreparedChange}
use Rattle.store_core.proofs.change_builder.prepare_removal.Goals as goal

pub returns : goal.returns
returns c = record {
  ok =
      let t : Tree = record { name = record { prefix = []; local = [] }; decls = []; attrs = []; content = last [] } in
      let n : Note = record { previous = c.args.tag; next = c.args.number; bindings = []; change = RemoveDocument; fresh = false } in
      let note : c.in_ok-note.note ≡ n = c.in_ok-note.ensures.any_tree t in
      let made : Note → List (List ℕ) → PreparedChange = λ x us. record { doc = c.args.doc; note = x; step = End; leaves = c.args.leaves; enters = us; total = c.args.total } in
      ap (λ (x : Note). made x c.empty.result) note ∙ ap (λ (us : List (List ℕ)). made n us) c.empty.ensures.holds_no_items;
}
