use Rattle.std.proofs.Common.{suc, List, Ok, sym, ap, ◌∙◌}
use Rattle.xml_tree.specs.Edits.{change_at}
use Rattle.xml_tree.specs.Nodes.{exchange_nodes}
use Rattle.xml_tree.specs.Tree.{at}
use Rattle.xml_tree.specs.declared.tree.Node.{Node}
use Rattle.patch_apply.proofs.Depths.{some_if}
use Rattle.patch_apply.proofs.ActionResults.{text_none}
use Rattle.patch_apply.proofs.ActionTrees.{text_made}
use Rattle.patch_apply.proofs.attributes.replace_text.Goals as goal

pub returns-in_default : goal.returns-in_default
returns-in_default c = record {
  as_specified = λ scope. text_none scope c.args.path.now c.args.place c.args.operation.now.content c.args.tree.now (sym c.in_ok-found.ensures.ok ∙ c.in_default.is);
}

pub returns : goal.returns
returns c = record {
  as_specified = λ scope.
      let p = c.args.path.now in let i = c.args.place in let t = c.args.tree.now in
      text_made p c.args.operation.now.content t (some_if (at p t) _ c.requires.place_exists) c.requires.height_bounded scope i c.in-Some.value
      (sym c.in_ok-found.ensures.ok ∙ c.in-Some.is)
      ∙ ap (λ (ns : List Node). Ok (change_at p (exchange_nodes i (suc i) ns) t)) (sym c.in_ok-nodes.ensures.ok)
      ∙ ap Ok (sym c.in_ok-exchange_node_at.ensures.ok);
}
