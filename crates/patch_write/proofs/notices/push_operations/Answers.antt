use Rattle.std.proofs.Common.{List, ap, ◌∙◌}
use Rattle.std.proofs.lemmas.List.{take_all}
use Rattle.xml_tree.specs.Edits.{with_elem}
use Rattle.xml_tree.specs.Tree.{Tree}
use Rattle.edit_ops.specs.DiffOperations.{operation}
use Rattle.edit_ops.specs.Notes.{Note}
use Rattle.patch_rules.specs.Notices.{operations}
use Rattle.patch_rules.specs.inner.AppendedElements.{with_elements}
use Rattle.patch_write.proofs.ElementLists.{next-put}
use Rattle.patch_write.proofs.notices.push_operations.Goals as goal

pub loop-note-preserved : goal.loop-note-preserved
loop-note-preserved c =
    let old = c.loop-note.document in
    next-put (operation c.args.prefix.now) c.args.notes.now c.loop-note.note-index c.note-item.result c.args.document.now old c.push_elem.new.self c.loop-note-test.true c.note-item.is c.loop-note.invariant
    (c.in_ok-push_elem.ensures.adds_element ∙ ap (λ (e : Tree). record old { content = with_elem e old.content }) c.in_ok-operation.ensures.ok)

pub returns : goal.returns
returns c = record {
  ok =
      c.loop-note.invariant ∙ ap (λ (ns : List Note). with_elements (operations c.args.prefix.now ns) c.args.document.now) (take_all c.loop-note.note-index c.args.notes.now c.loop-note-test.false);
}
