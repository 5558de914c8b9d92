use Rattle.std.proofs.Common.{Result, subst}
use Rattle.edit_ops.specs.declared.change.Change.{Change}
use Rattle.edit_rules.specs.Deletions.{IsDeletePlan}
use Rattle.edit_rules.specs.declared.edit_refusal.EditRefusal.{EditRefusal}
use Rattle.xcap_put.proofs.PlanAnswers.{delete_may}
use Rattle.xcap_put.proofs.DeletePlans.{cut, removal_refusal}
use Rattle.xcap_put.proofs.nodes.plan_node_removal.Goals as goal

pub returns-in-Ok : goal.returns-in-Ok
returns-in-Ok c = record {
  plans_removal =
      cut c.texts_are_those_of_found_nodes.ensures.text_iff_found c.args.usage c.args.tree.now c.args.selector.now c.args.request.now (delete_may c.args.usage c.args.tree.now c.args.selector.now c.requires.is_sound) c.in-Ok.change (subst (λ (r : Result Change EditRefusal). IsDeletePlan c.args.usage c.args.tree.now c.args.selector.now r) c.in-Ok.is c.in_ok-change.ensures.as_specified);
}

pub returns-in-Err : goal.returns-in-Err
returns-in-Err c = record {
  plans_removal =
      removal_refusal c.texts_are_those_of_found_nodes.ensures.text_iff_found c.args.usage c.args.tree.now c.args.selector.now c.args.request.now (delete_may c.args.usage c.args.tree.now c.args.selector.now c.requires.is_sound) c.in-Err.why (subst (λ (r : Result Change EditRefusal). IsDeletePlan c.args.usage c.args.tree.now c.args.selector.now r) c.in-Err.is c.in_ok-change.ensures.as_specified)
      c.removal_refusal.result c.removal_refusal.ensures.reason_reply;
}
