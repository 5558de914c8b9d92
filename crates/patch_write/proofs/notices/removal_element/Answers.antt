use Rattle.std.proofs.Common.{[], ◌∷◌, ◌++◌, chars, codes, decimal, ap, ◌∙◌}
use Rattle.xml_names.specs.ExpandedNames.{name_from_parts}
use Rattle.xml_tree.specs.Tree.{Tree, last, tree_of}
use Rattle.edit_ops.specs.DiffOperations.{plain_attr, sel_attr}
use Rattle.patch_write.proofs.Words.{former_tag}
use Rattle.patch_write.proofs.notices.removal_element.Goals as goal

pub returns : goal.returns
returns c = record {
  ok =
      let names = c.args.names.now in
      c.in_ok-push_etag.ensures.appended
      ∙ ap (λ (t : Tree). record t { attrs = t.attrs ++ plain_attr (chars (codes "previous-etag")) (decimal c.args.from) ∷ [] }) c.in_ok-gone.ensures.ok
      ∙ (λ i. tree_of (name_from_parts names.prefix (codes "document")) [] (sel_attr names.sel ∷ plain_attr (former_tag i) (decimal c.args.from) ∷ []) (last []));
}
