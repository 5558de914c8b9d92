use Rattle.std.proofs.Common.{◌++◌, ◌∷◌, [], sym, ap, ◌∙◌}
use Rattle.std.proofs.lemmas.Result.{on_ok_weaker}
use Rattle.xml_tree.proofs.PathLemmas.{made_at}
use Rattle.patch_rules.specs.PatchOperations.{with_attrs}
use Rattle.patch_apply.proofs.attributes.push_attribute_at.Goals as goal

pub returns : goal.returns
returns c = record {
  tree_changed =
      let done = c.edit_at.ensures.edits_element in let f = with_attrs (λ ats. ats ++ c.args.attr ∷ []) in
      on_ok_weaker c.edit_at.result (λ made. made_at c.args.path.now f done.here done.left c.args.tree.now c.edit_at.new.self done.there (sym done.edits.leaves ∙ made ∙ ap f done.edits.shows) done.put) done.edits.met;
}
