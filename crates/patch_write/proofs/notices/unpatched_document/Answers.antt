use Rattle.std.proofs.Common.{[], ◌∷◌, ◌++◌, codes, decimal, ap, ◌∙◌}
use Rattle.xml_tree.specs.Tree.{Tree}
use Rattle.edit_ops.specs.DiffOperations.{plain_attr}
use Rattle.patch_write.proofs.notices.unpatched_document.Goals as goal

pub returns : goal.returns
returns c = record {
  ok =
      c.in_ok-push_etags.ensures.appended
      ∙ ap (λ (t : Tree). record t { attrs = (t.attrs ++ plain_attr (codes "new-etag") (decimal c.args.to) ∷ []) ++ plain_attr (codes "previous-etag") (decimal c.args.from) ∷ [] }) c.in_ok-made.ensures.ok;
}
