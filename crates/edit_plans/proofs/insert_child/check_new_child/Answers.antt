use Rattle.std.proofs.Common.{IsTrue}
use Rattle.xml_tree.specs.Tree.{child_elements_of}
use Rattle.edit_plans.specs.inner.ChildChangeResults.{HasFormedReferences, siblings_without}
use Rattle.edit_plans.proofs.ParentAnswers.{judged_by}
use Rattle.edit_plans.proofs.insert_child.check_new_child.Goals as goal

pub returns : goal.returns
returns c = record {
  judged_by_rules =
      let row = c.args.parent.now.kind in
      let scope = c.args.parent.now.scope.now in
      let new = c.args.new.now in
      let q = c.args.parent.now.path.now in
      let gap = c.args.gap in
      let xs = siblings_without c.args.left_out (child_elements_of c.args.parent.now.element.now) in
      let F = IsTrue c.is_formed_in-formed.result in
      let G = HasFormedReferences row scope new in
      judged_by F G row scope xs new q gap c.check_insertion.result c.is_formed_in-formed.ensures.exact c.check_insertion.ensures.judged_by_form;
}
