use Rattle.xcap_put.proofs.PlanAnswers.{put_may}
use Rattle.xcap_put.proofs.BodyPlans.{element_puts, element_refused}
use Rattle.xcap_put.proofs.TargetLemmas.{leads}
use Rattle.xcap_put.proofs.fragment_puts.put_element.Goals as goal

pub read_element-requires-clause-valid_spot : goal.read_element-requires-clause-valid_spot
read_element-requires-clause-valid_spot c = leads c.args.tree.now c.args.selector.now c.args.spot.now c.requires.valid_spot

pub returns-in-Ok : goal.returns-in-Ok
returns-in-Ok c = record {
  plans_put =
      element_puts c.args.usage c.args.selector.now c.args.tree.now c.args.request.now c.args.spot.now c.in-Ok.element c.as_slice.result.now c.as_slice.ensures.exact c.in-Ok.ensures.grammar_answer
      (put_may c.args.usage c.args.tree.now c.args.selector.now c.requires.is_sound c.args.spot.now c.in-Ok.element c.requires.valid_spot c.in-Ok.ensures.is_proper.0 c.in-Ok.ensures.is_proper.1) c.args.exists c.requires.exists_iff
      c.plan_put-planned.result c.plan_from_result.result c.plan_put-planned.ensures.as_specified c.plan_from_result.ensures.exact_plan;
}

pub returns-in-Err-Fault : goal.returns-in-Err-Fault
returns-in-Err-Fault c = record {
  plans_put =
      element_refused c.args.usage c.args.selector.now c.args.tree.now c.args.request.now c.args.spot.now c.in-Err-Fault.fault c.in-Err-Fault.field-0 c.as_slice.result.now c.as_slice.ensures.exact c.in-Err-Fault.field-0-is c.in-Err-Fault.ensures.grammar_answer
      c.element_refusal_plan.result (rw c.in-Err-Fault.fault-is at c.element_refusal_plan.ensures.fault_reply);
}
