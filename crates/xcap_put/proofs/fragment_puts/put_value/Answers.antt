use Rattle.xcap_put.proofs.PlanAnswers.{attr_may}
use Rattle.xcap_put.proofs.BodyPlans.{value_puts, value_refused}
use Rattle.xcap_put.proofs.fragment_puts.put_value.Goals as goal

pub returns-in_ok-planned-in-Ok : goal.returns-in_ok-planned-in-Ok
returns-in_ok-planned-in-Ok c = record {
  plans_put =
      value_puts c.args.usage c.args.selector.now c.args.tree.now c.args.request.now c.args.path.now c.in-Ok.value c.as_slice.result.now c.as_slice.ensures.exact c.in-Ok.ensures.grammar_answer
      (attr_may c.args.usage c.args.tree.now c.args.selector.now c.requires.is_sound c.args.path.now c.in-Ok.value c.requires.valid_spot.0 c.requires.writable c.in-Ok.ensures.allowed_chars) c.args.exists c.requires.exists_iff
      c.in_ok-planned-in-Ok.planned c.plan_from_result.result c.in_ok-planned-in-Ok.ensures.as_specified c.plan_from_result.ensures.exact_plan;
}

pub returns-in-Err-Fault : goal.returns-in-Err-Fault
returns-in-Err-Fault c = record {
  plans_put =
      value_refused c.args.usage c.args.selector.now c.args.tree.now c.args.request.now c.args.path.now c.in-Err-Fault.fault c.in-Err-Fault.field-0 c.as_slice.result.now c.as_slice.ensures.exact c.in-Err-Fault.field-0-is c.in-Err-Fault.ensures.grammar_answer
      c.value_refusal_plan.result (rw c.in-Err-Fault.fault-is at c.value_refusal_plan.ensures.fault_reply);
}
