use Rattle.std.proofs.Common.{IsTrue, rules}
use Rattle.usage_docs.specs.ElementKinds.{kind_of_child}
use Rattle.edit_rules.specs.StartTags.{are_attrs_formed}
use Rattle.edit_plans.proofs.TagLemmas.{by_kind}
use Rattle.edit_plans.proofs.child_attributes.attrs_formed_in.Goals as goal

pub returns : goal.returns
returns c = record {
  exact =
      let scope = c.args.parent.now.scope.now in
      let tag = c.args.tag.now in
      by_kind (λ own. IsTrue (are_attrs_formed own tag.attrs)) (IsTrue c.are_attrs_formed.result) c.args.parent.now.kind (λ kind. kind_of_child kind scope tag) c.in-Some.row c.in-Some-kind_of.kind c.in-Some.is
      (search rules) (search rules);
}
