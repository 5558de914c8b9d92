use Rattle.std.proofs.Common.{[], ◌∷◌, ◌++◌, ap, chars, codes, decimal, ◌∙◌}
use Rattle.std.proofs.lemmas.Result.{IfOk-equal}
use Rattle.xml_tree.specs.Tree.{Tree}
use Rattle.edit_ops.specs.DiffOperations.{plain_attr}
use Rattle.patch_write.proofs.Words.{former_tag, next_tag}
use Rattle.patch_write.proofs.notices.push_etags.Goals as goal

pub returns : goal.returns
returns c = record {
  appended =
      let old : Tree = c.args.document.now in
      IfOk-equal c.push_etag-2.result c.push_etag-2.new.document _ _ c.push_etag-2.ensures.appended
      (ap (λ (t : Tree). record t { attrs = t.attrs ++ plain_attr (chars (codes "previous-etag")) (decimal c.args.from) ∷ [] }) c.in_ok-push_etag.ensures.appended
      ∙ (λ i. record old { attrs = (old.attrs ++ plain_attr (next_tag i) (decimal c.args.to) ∷ []) ++ plain_attr (former_tag i) (decimal c.args.from) ∷ [] }));
}
