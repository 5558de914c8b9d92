use Rattle.std.proofs.Common.{◌≤◌, length, sym, subst, ap, ◌∙◌}
use Rattle.std.proofs.lemmas.Result.{on_ok_weaker}
use Rattle.xml_tree.specs.Nodes.{exchange_nodes, nodes_of}
use Rattle.xml_tree.specs.Tree.{Tree, at}
use Rattle.xml_tree.proofs.PathLemmas.{from_there, made_at}
use Rattle.patch_apply.proofs.Depths.{some_if}
use Rattle.patch_apply.proofs.edits.exchange_nodes_at.Goals as goal

pub edit_at-requires-clause-place_exists : goal.edit_at-requires-clause-place_exists
edit_at-requires-clause-place_exists c = some_if (at c.args.path.now c.args.tree.now) _ c.requires.within

pub edit_at-requires-clause-callable : goal.edit_at-requires-clause-callable
edit_at-requires-clause-callable c = λ e is p shows.
    let fits = from_there (at c.args.path.now c.args.tree.now) (λ (x : Tree). c.args.to ≤ length (nodes_of x.content)) e c.requires.within is in
    (c.requires.range_ordered, subst (λ (x : Tree). c.args.to ≤ length (nodes_of x.content)) (sym shows) fits)

pub returns : goal.returns
returns c = record {
  tree_changed =
      let done = c.edit_at.ensures.edits_element in let f = exchange_nodes c.args.from c.args.to c.args.nodes.items in
      on_ok_weaker c.edit_at.result (λ made. made_at c.args.path.now f done.here done.left c.args.tree.now c.edit_at.new.self done.there (sym done.edits.leaves ∙ made ∙ ap f done.edits.shows) done.put) done.edits.met;
}
