use Rattle.std.proofs.Common.{ℕ, List, [], ◌∷◌, ◌++◌, chars, ap}
use Rattle.std.proofs.lemmas.Result.{IfOk-equal}
use Rattle.xml_tree.specs.Tree.{Tree}
use Rattle.edit_ops.specs.DiffOperations.{plain_attr}
use Rattle.patch_write.proofs.notices.push_etag.Goals as goal

pub returns : goal.returns
returns c = record {
  appended =
      let old : Tree = c.args.document.now in
      IfOk-equal c.push_plain_attr.result c.push_plain_attr.new.element _ _ c.push_plain_attr.ensures.appended
      (ap (λ (text : List ℕ). record old { attrs = old.attrs ++ plain_attr (chars c.args.word.now) text ∷ [] }) c.in_ok-tag_text.ensures.ok);
}
