use Rattle.std.proofs.Common.{List, [], ◌∷◌, ap, ◌∙◌}
use Rattle.std.proofs.lemmas.List.{take_all}
use Rattle.xml_tree.specs.Edits.{with_elem}
use Rattle.xml_tree.specs.Tree.{Tree}
use Rattle.edit_ops.specs.Notes.{Note}
use Rattle.edit_ops.specs.DiffOperations.{operation}
use Rattle.patch_rules.specs.Notices.{document, patching_documents}
use Rattle.patch_rules.specs.inner.AppendedElements.{with_elements}
use Rattle.patch_write.proofs.ElementLists.{next-put}
use Rattle.patch_write.proofs.notices.push_record_documents.Goals as goal

pub loop-note-preserved : goal.loop-note-preserved
loop-note-preserved c =
    let old = c.loop-note.notice in
    let p = c.args.names.now.prefix in
    let sel = c.args.names.now.sel in
    let tell : Note → Tree = λ n. document p sel n.previous n.next (operation p n ∷ []) in
    next-put tell c.args.notes.now c.loop-note.note-index c.note-item.result c.args.notice.now old c.push_elem.new.self c.loop-note-test.true c.note-item.is c.loop-note.invariant
    (c.in_ok-push_elem.ensures.adds_element ∙ ap (λ (e : Tree). record old { content = with_elem e old.content }) c.in_ok-document_of_record.ensures.ok)

pub returns : goal.returns
returns c = record {
  ok =
      c.loop-note.invariant
      ∙ ap (λ (ns : List Note). with_elements (patching_documents c.args.names.now.prefix c.args.names.now.sel ns) c.args.notice.now) (take_all c.loop-note.note-index c.args.notes.now c.loop-note-test.false);
}
