use Rattle.std.proofs.Common.{Option, Some, Ok, true, refl, subst}
use Rattle.xcap_machine.specs.NodeWrites.{RemovesNode}
use Rattle.xcap_machine.specs.inner.RecordValues.{node_write}
use Rattle.xcap_put.specs.inner.RequestPlans.{IsRemovalPlan, Plan}
use Rattle.xcap_put.proofs.NodeRequests.{plan_unstopped, there}
use Rattle.xcap_put.proofs.nodes.plan_delete_in_document.Goals as goal

pub returns-in-Ok-None : goal.returns-in-Ok-None
returns-in-Ok-None c =
    let plan = c.in-Some.plan in
    let cut : IsRemovalPlan c.args.usage c.args.held.0.now c.args.selector.now c.args.request.now (Some plan) =
    subst (λ (p : Option Plan). IsRemovalPlan c.args.usage c.args.held.0.now c.args.selector.now c.args.request.now p) c.in-Some.is c.in_ok-plan.ensures.plans_removal in
    record {
      plans_removal =
          there c.args.usage c.args.selector.now c.args.held.0.now c.args.held.1 c.args.request.now {E = Unit {0}} (Ok plan) cut.0
          (plan_unstopped c.args.usage c.args.held.0.now c.args.request.now c.args.held.1 true true refl (λ d id a. RemovesNode d (node_write id c.args.usage c.args.selector.now c.args.request.now) c.args.held.0.now a)
          _ c.in-Ok-None.ensures.exact {E = Unit {0}} (Ok plan) c.in-Ok-None.field-0-is cut.1);
    }
