use Rattle.xcap_put.proofs.BodyReading.{text_comes, text_refused}
use Rattle.xcap_put.proofs.request_bodies.parse_body.Goals as goal

pub returns-in-Ok : goal.returns-in-Ok
returns-in-Ok c = record {
  comes_of_text =
      text_comes c.args.usage c.args.request.now c.check_document.result c.in-Ok.root c.as_slice.result.now c.as_slice.ensures.exact c.in-Ok.ensures.grammar_answer c.check_document.ensures.comes_of_tree;
}

pub returns-in-Err-Fault : goal.returns-in-Err-Fault
returns-in-Err-Fault c = record {
  comes_of_text =
      text_refused c.args.usage c.args.request.now c.text_refusal_reply.result c.in-Err-Fault.fault c.in-Err-Fault.field-0 c.as_slice.result.now c.as_slice.ensures.exact c.in-Err-Fault.field-0-is c.in-Err-Fault.ensures.grammar_answer
      (rw c.in-Err-Fault.fault-is at c.text_refusal_reply.ensures.fault_reply);
}
