use Rattle.std.proofs.Common.{◌<◌, length, sym, subst, ap, ◌∙◌}
use Rattle.xml_names.specs.Attributes.{with_value_at}
use Rattle.xml_tree.specs.Tree.{Tree, at}
use Rattle.xml_tree.proofs.PathLemmas.{from_there, made_at}
use Rattle.patch_rules.specs.PatchOperations.{with_attrs}
use Rattle.patch_apply.proofs.Depths.{some_if}
use Rattle.patch_apply.proofs.attributes.set_attribute_at.Goals as goal

pub edit_at-requires-clause-place_exists : goal.edit_at-requires-clause-place_exists
edit_at-requires-clause-place_exists c = some_if (at c.args.path.now c.args.tree.now) _ c.requires

pub edit_at-requires-clause-callable : goal.edit_at-requires-clause-callable
edit_at-requires-clause-callable c = λ e is p shows.
    subst (λ (x : Tree). c.args.place < length x.attrs) (sym shows) (from_there (at c.args.path.now c.args.tree.now) (λ (x : Tree). c.args.place < length x.attrs) e c.requires is)

pub returns : goal.returns
returns c = record {
  tree_changed =
      let done = c.edit_at.ensures.edits_element in let f = with_attrs (with_value_at c.args.place c.args.value) in
      made_at c.args.path.now f done.here done.left c.args.tree.now c.edit_at.new.self done.there (sym done.edits.leaves ∙ done.edits.met ∙ ap f done.edits.shows) done.put;
}
