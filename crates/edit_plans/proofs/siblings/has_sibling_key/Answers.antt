use Rattle.std.specs.Prelude.{chars}
use Rattle.std.proofs.Common.{false, refl, sym, ◌∙◌}
use Rattle.std.proofs.lemmas.Option.{none-some}
use Rattle.usage_docs.specs.UniqueKeys.{sibling_key}
use Rattle.edit_plans.proofs.ParentAnswers.{true_false}
use Rattle.edit_plans.proofs.TwinLemmas.{marked_by_kind, other_value, unmarked_kind}
use Rattle.edit_plans.proofs.siblings.has_sibling_key.Goals as goal

pub returns-then-not-has_value : goal.returns-then-not-has_value
returns-then-not-has_value c = record {
  exact =
      (λ h. absurd (true_false false h refl), λ h. absurd (other_value c.args.row c.args.scope.now c.args.child_element.now c.args.kind c.args.key (chars c.args.value.now) c.requires (λ has. true_false c.has_value.result (c.has_value.ensures.exact.1 has) c.if-not-has_value.true) h));
}

pub returns-in_default : goal.returns-in_default
returns-in_default c = record {
  exact =
      let none = unmarked_kind c.args.row c.args.scope.now c.args.child_element.now (sym c.kind_of_child.ensures.child_kind ∙ c.in_default.is) in
      (λ h. absurd (true_false false h refl), λ h. absurd (none-some (sibling_key c.args.kind (chars c.args.value.now)) (sym none ∙ h)));
}

pub returns : goal.returns
returns c = record {
  exact =
      marked_by_kind c.args.row c.args.scope.now c.args.child_element.now c.in-Some.own c.args.kind c.args.key (chars c.args.value.now) c.same_kind.result (sym c.kind_of_child.ensures.child_kind ∙ c.in-Some.is) c.requires (c.has_value.ensures.exact.0 c.if-not-has_value.false) c.same_kind.ensures.exact;
}
