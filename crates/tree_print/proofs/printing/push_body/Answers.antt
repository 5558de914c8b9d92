use Rattle.std.proofs.Common.{ℕ, List, ◌++◌, flat_map, sym, ap, ◌∙◌, map-id}
use Rattle.std.proofs.lemmas.Iterator.{YieldsList-from_chars}
use Rattle.std.proofs.lemmas.Iterator.Consumers.{YieldsList-end}
use Rattle.tree_print.specs.AttributeBodyPrints.{body_escape}
use Rattle.tree_print.proofs.printing.push_body.Goals as goal

pub returns : goal.returns
returns c = record {
  appended =
      let end = YieldsList-end (YieldsList-from_chars c.args.value.now c.utf8.value cc) c.loop-c.yielded _ c.loop-c.yielded_by _ _ c.in-None.is c.next.ensures.steps in
      c.loop-c.invariant ∙ ap (λ (z : List ℕ). c.args.out.now ++ flat_map body_escape z) (sym (map-id c.loop-c.yielded) ∙ end.0);
}
