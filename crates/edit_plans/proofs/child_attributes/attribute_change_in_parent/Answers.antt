use Rattle.std.proofs.Common.{inl, inr, remove, refl, ap, Err, IsTrue}
use Rattle.node_select.proofs.ListEdits.{length_removed}
use Rattle.xml_tree.specs.Tree.{child_elements_of}
use Rattle.edit_rules.specs.StartTags.{HasFormedAttrs}
use Rattle.edit_plans.proofs.ParentAnswers.{judged_by, true_false}
use Rattle.edit_plans.proofs.child_attributes.attribute_change_in_parent.Goals as goal

pub returns-then-not-is_found_in : goal.returns-then-not-is_found_in
returns-then-not-is_found_in c = record { new_tag_plan = inl (ap (λ e. Err e) c.not_found_refusal.ensures.exact, λ f. true_false c.is_found_in.result (c.is_found_in.ensures.exact.1 f) c.if-not-is_found_in.true) }

pub returns-then-not-are_attrs_allowed_in : goal.returns-then-not-are_attrs_allowed_in
returns-then-not-are_attrs_allowed_in c = record { new_tag_plan = inr (inl (refl, c.is_found_in.ensures.exact.0 c.if-not-is_found_in.false, λ f. true_false c.are_attrs_allowed_in.result (c.are_attrs_allowed_in.ensures.exact.1 f) c.if-not-are_attrs_allowed_in.true)) }

pub check_insertion-requires-clause-gap_in_range : goal.check_insertion-requires-clause-gap_in_range
check_insertion-requires-clause-gap_in_range c =
    length_removed (child_elements_of c.args.parent.now.element.now) c.args.child c.requires.selected.1.this.child_element c.requires.selected.1.this.there

pub returns : goal.returns
returns c = record {
  new_tag_plan =
      let row = c.args.parent.now.kind in
      let scope = c.args.parent.now.scope.now in
      let parent = c.args.parent.now.element.now in
      let tag = c.args.tag.now in
      let q = c.args.parent.now.path.now in
      let j = c.args.child in
      let F = IsTrue c.attrs_formed_in-formed.result in
      let G = HasFormedAttrs row scope tag in
      let xs = remove (child_elements_of parent) j in
      inr (inr (
        c.is_found_in.ensures.exact.0 c.if-not-is_found_in.false,
        c.are_attrs_allowed_in.ensures.exact.0 c.if-not-are_attrs_allowed_in.false,
        judged_by F G row scope xs tag q j c.check_insertion.result c.attrs_formed_in-formed.ensures.exact c.check_insertion.ensures.judged_by_form,
      ));
}
