use Rattle.std.proofs.Common.{IsTrue, rules}
use Rattle.xml_tree.specs.TreeScopes.{inside}
use Rattle.usage_docs.specs.KeyAttributes.{are_attrs_allowed}
use Rattle.usage_docs.specs.ElementKinds.{kind_of_child}
use Rattle.edit_plans.proofs.TagLemmas.{by_kind}
use Rattle.edit_plans.proofs.child_attributes.are_attrs_allowed_in.Goals as goal

pub returns : goal.returns
returns c = record {
  exact =
      let scope = c.args.parent.now.scope.now in
      let tag = c.args.tag.now in
      by_kind (λ own. IsTrue (are_attrs_allowed own (inside scope tag) tag.attrs)) (IsTrue c.are_attrs_allowed.result) c.args.parent.now.kind (λ kind. kind_of_child kind scope tag) c.in-Some.row c.in-Some-kind_of.kind c.in-Some.is
      (search rules) (search rules);
}
