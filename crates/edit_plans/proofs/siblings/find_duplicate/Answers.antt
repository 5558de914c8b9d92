use Rattle.std.specs.Prelude.{chars}
use Rattle.std.proofs.Common.{◌≡◌, IfSome, Option, Some, ℕ, sym, ap, ◌∙◌, subst, option_map}
use Rattle.xml_tree.specs.Tree.{child_elements_of}
use Rattle.usage_docs.specs.KeyAttributes.{value_of}
use Rattle.usage_docs.specs.UniqueKeys.{sibling_key, sibling_key_at}
use Rattle.edit_plans.specs.inner.ChildChangeResults.{siblings_without}
use Rattle.edit_plans.proofs.TwinLemmas.{mark_among, mark_with, no_twin_marked, no_twin_unmarked, twin_is, unmarked_key, unmarked_kind, unmarked_value}
use Rattle.edit_plans.proofs.siblings.find_duplicate.Goals as goal

pub returns-in_default-clause-none_is_marked : goal.returns-in_default-clause-none_is_marked
returns-in_default-clause-none_is_marked c = λ _.
    no_twin_unmarked c.args.row c.args.parent.now.scope.now (siblings_without c.args.left_out (child_elements_of c.args.parent.now.element.now)) c.args.new.now (unmarked_kind c.args.row c.args.parent.now.scope.now c.args.new.now (sym c.kind_of_child.ensures.child_kind ∙ c.in_default.is))

pub returns-in_default-key_of-clause-none_is_marked : goal.returns-in_default-key_of-clause-none_is_marked
returns-in_default-key_of-clause-none_is_marked c = λ _.
    no_twin_unmarked c.args.row c.args.parent.now.scope.now (siblings_without c.args.left_out (child_elements_of c.args.parent.now.element.now)) c.args.new.now
    (unmarked_key c.args.row c.args.parent.now.scope.now c.args.new.now c.in-Some.kind (sym c.kind_of_child.ensures.child_kind ∙ c.in-Some.is) (sym c.key_of.ensures.exact ∙ c.in_default-key_of.is))

pub returns-in_default-value_of-clause-none_is_marked : goal.returns-in_default-value_of-clause-none_is_marked
returns-in_default-value_of-clause-none_is_marked c = λ _.
    no_twin_unmarked c.args.row c.args.parent.now.scope.now (siblings_without c.args.left_out (child_elements_of c.args.parent.now.element.now)) c.args.new.now
    (unmarked_value c.args.row c.args.parent.now.scope.now c.args.new.now c.in-Some.kind c.in-Some-key_of.key (sym c.kind_of_child.ensures.child_kind ∙ c.in-Some.is) (sym c.key_of.ensures.exact ∙ c.in-Some-key_of.is)
    (ap (value_of c.in-Some-key_of.key) (sym c.attrs.ensures.exact) ∙ sym c.value_of.ensures.exact ∙ ap (λ o. option_map (λ text. chars text.now) o) c.in_default-value_of.is))

pub returns-in_default-find_child_with_key-clause-none_is_marked : goal.returns-in_default-find_child_with_key-clause-none_is_marked
returns-in_default-find_child_with_key-clause-none_is_marked c = λ _.
    let value = ap (value_of c.in-Some-key_of.key) (sym c.attrs.ensures.exact) ∙ sym c.value_of.ensures.exact ∙ ap (λ o. option_map (λ text. chars text.now) o) c.in-Some-value_of.is in
    no_twin_marked c.args.row c.args.parent.now.scope.now c.args.left_out (child_elements_of c.args.parent.now.element.now) c.args.new.now (sibling_key c.in-Some.kind (chars c.in-Some-value_of.value.now))
    (mark_with c.args.row c.args.parent.now.scope.now c.args.new.now c.in-Some.kind c.in-Some-key_of.key (chars c.in-Some-value_of.value.now) (sym c.kind_of_child.ensures.child_kind ∙ c.in-Some.is) (sym c.key_of.ensures.exact ∙ c.in-Some-key_of.is) value)
    (c.find_child_with_key.ensures.none_is_marked c.in_default-find_child_with_key.is)

pub returns-clause-some_is_marked : goal.returns-clause-some_is_marked
returns-clause-some_is_marked c =
    let value = ap (value_of c.in-Some-key_of.key) (sym c.attrs.ensures.exact) ∙ sym c.value_of.ensures.exact ∙ ap (λ o. option_map (λ text. chars text.now) o) c.in-Some-value_of.is in
    let xs = child_elements_of c.args.parent.now.element.now in
    let left_out = c.args.left_out in
    let m = sibling_key c.in-Some.kind (chars c.in-Some-value_of.value.now) in
    let there = subst (λ (o : Option ℕ). IfSome o (λ i. (left_out ≡ Some i → ⊥) × (sibling_key_at c.args.row c.args.parent.now.scope.now xs i ≡ Some m))) c.in-Some-find_child_with_key.is c.find_child_with_key.ensures.some_is_marked in
    let here = mark_among c.args.row c.args.parent.now.scope.now left_out xs c.in-Some-find_child_with_key.child m there.0 there.1 in
    twin_is c.args.row c.args.parent.now.scope.now (siblings_without left_out xs) c.args.new.now c.in-Some.kind c.in-Some-key_of.key (chars c.in-Some-value_of.value.now) c.number_among_siblings.result (sym c.kind_of_child.ensures.child_kind ∙ c.in-Some.is) (sym c.key_of.ensures.exact ∙ c.in-Some-key_of.is) value
    (ap (sibling_key_at c.args.row c.args.parent.now.scope.now (siblings_without left_out xs)) c.number_among_siblings.ensures.exact ∙ here)
