use Rattle.std.proofs.Common.{sym, ◌∙◌}
use Rattle.xcap_server.proofs.LentAnswers.{lends_found, lends_no_fault, lends_no_other_method}
use Rattle.xcap_server.proofs.lent_answers.lend_answer.Goals as goal

pub returns-then-not-is_get : goal.returns-then-not-is_get
returns-then-not-is_get c = record {
  lends_found = lends_no_other_method c.args.root.now c.args.store.now.content c.args.request.now (sym c.is_get.ensures.exact ∙ c.if-not-is_get.true);
}

pub returns-in-Ok : goal.returns-in-Ok
returns-in-Ok c = record {
  lends_found =
      lends_found c.args.root.now c.args.store.now.content c.args.request.now c.in-Ok.target (rw c.as_slice.ensures.exact at c.in-Ok.ensures.rules_answer) (sym c.is_get.ensures.exact ∙ c.if-not-is_get.false) c.lend_permitted-lent.result
      c.lend_permitted-lent.ensures.lends_answer;
}

pub returns-in-Err-Fault : goal.returns-in-Err-Fault
returns-in-Err-Fault c = record {
  lends_found =
      lends_no_fault c.args.root.now c.args.store.now.content c.args.request.now c.as_slice.result.now c.read_target.result c.in-Err-Fault.field-0 c.in-Err-Fault.field-0-0 c.as_slice.ensures.exact c.in-Err-Fault.is
      c.in-Err-Fault.field-0-is c.read_target.ensures.rules_answer;
}
