use Rattle.std.proofs.Common.{option_map, sym, ap, ◌∙◌}
use Rattle.patch_parse.specs.Views.{action_view}
use Rattle.patch_apply.proofs.OperationStages.{edits_same, said_error, said_next, said_nothing}
use Rattle.patch_apply.proofs.operations.apply_selected.Goals as goal
use Rattle.patch_rules.specs.PatchOperations.{operation_action}

pub returns-in_default : goal.returns-in_default
returns-in_default c = record {
  as_specified =
      let o = c.args.operation.now in
      said_nothing c.args.here.now c.args.sel.now o c.args.tree.now
      ((λ i. operation_action (sym c.name.ensures.exact i) (sym c.attrs.ensures.exact i)) ∙ sym c.in_ok-meant.ensures.ok ∙ ap (option_map action_view) c.in_default.is);
}

pub returns-in-Err : goal.returns-in-Err
returns-in-Err c = record {
  as_specified =
      let o = c.args.operation.now in
      said_error c.args.here.now c.args.sel.now o c.args.tree.now (action_view c.in-Some.task) c.in-Err.error c.args.tree.now
      ((λ i. operation_action (sym c.name.ensures.exact i) (sym c.attrs.ensures.exact i)) ∙ sym c.in_ok-meant.ensures.ok ∙ ap (option_map action_view) c.in-Some.is)
      c.in-Err.ensures.grammar_answer;
}

pub returns-in-Ok : goal.returns-in-Ok
returns-in-Ok c = record {
  as_specified =
      let o = c.args.operation.now in
      edits_same _ _ c.locate_and_apply.new.tree c.locate_and_apply.result
      (
      sym (
      said_next c.args.here.now c.args.sel.now o c.args.tree.now (action_view c.in-Some.task) c.in-Ok.selector
      ((λ i. operation_action (sym c.name.ensures.exact i) (sym c.attrs.ensures.exact i)) ∙ sym c.in_ok-meant.ensures.ok ∙ ap (option_map action_view) c.in-Some.is)
      c.in-Ok.ensures.grammar_answer
      )
      )
      c.locate_and_apply.ensures.as_specified;
}
