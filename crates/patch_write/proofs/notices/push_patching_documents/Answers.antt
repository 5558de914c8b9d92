use Rattle.std.proofs.Common.{List, [], ◌∷◌, map, ap, ◌∙◌}
use Rattle.edit_ops.specs.Notes.{Note}
use Rattle.edit_ops.specs.DiffOperations.{operation}
use Rattle.xml_tree.specs.Tree.{Tree}
use Rattle.patch_rules.specs.Notices.{document}
use Rattle.patch_rules.specs.inner.AppendedElements.{with_elements}
use Rattle.patch_write.proofs.ElementLists.{two-behind}
use Rattle.patch_write.proofs.notices.push_patching_documents.Goals as goal

pub returns : goal.returns
returns c = record {
  ok =
      let p = c.args.names.now.prefix in
      let tell : Note → Tree = λ n. document p c.args.names.now.sel n.previous n.next (operation p n ∷ []) in
      two-behind tell c.pieces.result.0.now c.pieces.result.1.now c.args.notice.now c.push_record_documents.new.notice c.push_record_documents-2.new.notice c.in_ok-push_record_documents.ensures.ok c.in_ok-push_record_documents-2.ensures.ok
      ∙ ap (λ (ns : List Note). with_elements (map tell ns) c.args.notice.now) c.pieces.ensures.exact;
}
