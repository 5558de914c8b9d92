use Rattle.std.proofs.Common.{Option, sym, ap}
use Rattle.patch_rules.specs.PatchOperations.{Location, Unlocated, require_some}
use Rattle.patch_rules.specs.PatchOperations as words
use Rattle.patch_parse.specs.Views.{action_view}
use Rattle.patch_apply.proofs.OperationStages.{edits_same}
use Rattle.patch_apply.proofs.operations.locate_and_apply.Goals as goal

pub returns-in_default : goal.returns-in_default
returns-in_default c = record {
  as_specified = ap (λ (o : Option Location). require_some o Unlocated (λ location. words.apply_action c.args.here.now (action_view c.args.task) location c.args.operation.now.content c.args.tree.now)) (c.in_default.ensures {u = tt}).selected_location;
}

pub returns : goal.returns
returns c = record {
  as_specified =
      let x = (c.in-Some.ensures {u = tt}).selected_location.1 in
      edits_same _ _ c.apply_action.new.tree c.apply_action.result
      (sym (ap (λ (o : Option Location). require_some o Unlocated (λ location. words.apply_action c.args.here.now (action_view c.args.task) location c.args.operation.now.content c.args.tree.now)) x.1))
      (c.apply_action.ensures.as_specified x.0 x.2);
}
