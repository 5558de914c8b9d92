use Rattle.std.proofs.Common.{Option, IsTrue, subst}
use Rattle.xml_tree.specs.Tree.{child_elements_of}
use Rattle.usage_docs.specs.declared.key_repeats.Clash.{Clash}
use Rattle.usage_docs.specs.readers.SiblingElements.{IsFirstInOrder}
use Rattle.edit_rules.specs.NewElements.{ClashesBeside}
use Rattle.edit_plans.specs.inner.ChildChangeResults.{siblings_without}
use Rattle.edit_plans.proofs.ParentAnswers.{judged_clash, judged_foreign, judged_ok, judged_unformed, true_false}
use Rattle.edit_plans.proofs.TwinLemmas.{clean_others}
use Rattle.edit_plans.proofs.insert_child.check_insertion.Goals as goal

pub returns-then-not-formed : goal.returns-then-not-formed
returns-then-not-formed c = record {
  judged_by_form =
      let xs = siblings_without c.args.left_out (child_elements_of c.args.parent.now.element.now) in
      judged_unformed (IsTrue c.args.formed) c.args.parent.now.kind c.args.parent.now.scope.now xs c.args.new.now c.args.parent.now.path.now c.args.gap (λ f. true_false c.args.formed f c.if-not-formed.true);
}

pub returns-in_default : goal.returns-in_default
returns-in_default c = record {
  judged_by_form =
      let xs = siblings_without c.args.left_out (child_elements_of c.args.parent.now.element.now) in
      judged_foreign (IsTrue c.args.formed) c.args.parent.now.kind c.args.parent.now.scope.now xs c.args.new.now c.args.parent.now.path.now c.args.gap c.in_default.is c.if-not-formed.false;
}

pub first_clash_beside-requires-clause-no_clash : goal.first_clash_beside-requires-clause-no_clash
first_clash_beside-requires-clause-no_clash c =
    clean_others c.in-Some.kind c.args.parent.now.scope.now c.args.left_out (child_elements_of c.args.parent.now.element.now) (c.requires.no_clash c.in-Some.kind c.in-Some.is)

pub returns-in-Some-first_clash_beside : goal.returns-in-Some-first_clash_beside
returns-in-Some-first_clash_beside c = record {
  judged_by_form =
      let xs = siblings_without c.args.left_out (child_elements_of c.args.parent.now.element.now) in
      let first = subst (λ (o : Option Clash). IsFirstInOrder (ClashesBeside (record { kind = c.in-Some.kind; scope = c.args.parent.now.scope.now; elements = xs }) c.args.new.now c.args.gap) c.args.parent.now.path.now o) c.in-Some-first_clash_beside.is c.first_clash_beside.ensures.first_of_clashes in
      judged_clash (IsTrue c.args.formed) c.args.parent.now.kind c.args.parent.now.scope.now xs c.args.new.now c.args.parent.now.path.now c.args.gap c.in-Some.kind c.in-Some-first_clash_beside.clash c.in-Some.is c.if-not-formed.false first;
}

pub returns-in-None : goal.returns-in-None
returns-in-None c = record {
  judged_by_form =
      let xs = siblings_without c.args.left_out (child_elements_of c.args.parent.now.element.now) in
      let first = subst (λ (o : Option Clash). IsFirstInOrder (ClashesBeside (record { kind = c.in-Some.kind; scope = c.args.parent.now.scope.now; elements = xs }) c.args.new.now c.args.gap) c.args.parent.now.path.now o) c.in-None.is c.first_clash_beside.ensures.first_of_clashes in
      judged_ok (IsTrue c.args.formed) c.args.parent.now.kind c.args.parent.now.scope.now xs c.args.new.now c.args.parent.now.path.now c.args.gap c.in-Some.kind c.in-Some.is c.if-not-formed.false first;
}
