use Rattle.std.proofs.Common.{◌≡◌, ◌+◌, ◌∷◌, drop, refl, sym, ◌∙◌, arith}
use Rattle.std.proofs.lemmas.Grind.{common_steps}
use Rattle.std.proofs.lemmas.Result.{on_ok_weaker}
use Rattle.xml_names.specs.Attributes.{with_new_value}
use Rattle.edit_ops.proofs.TagLemmas.{tag_written}
use Rattle.edit_ops.proofs.rebuild_tree.push_attrs_with.Goals as goal

pub returns-then-same : goal.returns-then-same
returns-then-same c = record {
  appended =
      let attrs = c.args.attrs.now in let i = c.loop-i.i in let attr = c.index-attrs-i.result in
      let tail : drop i attrs ≡ attr ∷ drop (i + 1) attrs = grind (arith, common_steps) in
      let named = sym c.same.ensures.exact ∙ c.if-same.true in
      on_ok_weaker c.push_attrs.result
      (λ is. tag_written c.args.made.now c.loop-i.made c.push_new_attr.new.made c.push_attrs.new.made c.args.name.now c.args.value.now attr (with_new_value c.args.value.now attr) attrs
      (drop i attrs) (drop (i + 1) attrs) c.loop-i.invariant.same c.loop-i.invariant.attrs tail named refl c.in_ok-push_new_attr.ensures.appended
      (rw c.split_at.ensures.back at is))
      c.push_attrs.ensures.appended;
}
