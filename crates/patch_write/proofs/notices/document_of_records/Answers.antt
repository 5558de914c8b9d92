use Rattle.std.proofs.Common.{List, [], ◌∷◌, codes, decimal, ap, ◌∙◌}
use Rattle.xml_names.specs.ExpandedNames.{name_from_parts as in_diff}
use Rattle.edit_ops.specs.DiffOperations.{operation, plain_attr as plain}
use Rattle.edit_ops.specs.Notes.{Note}
use Rattle.patch_rules.specs.Notices.{document, operations}
use Rattle.patch_write.proofs.ElementLists.{two-put}
use Rattle.patch_write.proofs.notices.document_of_records.Goals as goal

pub returns : goal.returns
returns c = record {
  ok =
      let p = c.args.names.now.prefix in
      two-put (operation p) (in_diff p (codes "document")) [] (plain (codes "sel") c.args.names.now.sel ∷ plain (codes "new-etag") (decimal c.args.to) ∷ plain (codes "previous-etag") (decimal c.args.from) ∷ []) c.pieces.result.0.now c.pieces.result.1.now
      c.in_ok-made.made c.push_operations.new.document c.push_operations-2.new.document c.in_ok-made.ensures.ok c.in_ok-push_operations.ensures.ok c.in_ok-push_operations-2.ensures.ok
      ∙ ap (λ (ns : List Note). document p c.args.names.now.sel c.args.from c.args.to (operations p ns)) c.pieces.ensures.exact;
}
