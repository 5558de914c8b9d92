use Rattle.std.proofs.Common.{◌≡◌, ◌∷◌, ◌-◌, take, drop, get_or, length, sym, ap, ◌∙◌, arith}
use Rattle.std.proofs.lemmas.Grind.{common_steps}
use Rattle.std.proofs.lemmas.Result.{IfOk-weaker}
use Rattle.xml_tree.specs.Edits.{change_at}
use Rattle.edit_ops.specs.inner.LocalChanges.{local_result}
use Rattle.edit_ops.proofs.SiteLemmas.{made_below}
use Rattle.edit_ops.proofs.rebuild_tree.+rebuild_below.Goals as goal

pub returns : goal.returns
returns t c = record {
  ok =
      let way = c.args.way.now in let child = get_or way 0 0 in let rest = take (length way - 1) (drop 1 way) in
      let parts : way ≡ child ∷ rest = grind (arith, common_steps, c.in-len1-up.len_at_least) in
      let f = local_result c.args.change.now in
      IfOk-weaker c.with_child.result _ _
      (λ made is. is ∙ made_below child (change_at rest f) c.in-Some.child_element.now c.in_ok-made.made c.args.element.now (sym c.in-Some.ensures.exact) c.in_ok-made.ensures.ok
      ∙ ap (λ p. change_at p f c.args.element.now) (sym parts))
      c.with_child.ensures.ok;
}
