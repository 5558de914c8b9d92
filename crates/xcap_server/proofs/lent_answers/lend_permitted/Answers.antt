use Rattle.std.proofs.Common.{sym, ◌∙◌}
use Rattle.xcap_server.proofs.LentAnswers.{lends_allowed, lends_refused}
use Rattle.xcap_server.proofs.lent_answers.lend_permitted.Goals as goal

pub returns-then-not-is_permitted : goal.returns-then-not-is_permitted
returns-then-not-is_permitted c = record {
  lends_answer = lends_refused c.args.target.now c.args.store.now.content c.args.request.now (sym c.is_permitted.ensures.allowed_by_right ∙ c.if-not-is_permitted.true);
}

pub returns : goal.returns
returns c = record {
  lends_answer = lends_allowed c.args.target.now c.args.store.now.content c.args.request.now c.lend_target.result (sym c.is_permitted.ensures.allowed_by_right ∙ c.if-not-is_permitted.false) c.lend_target.ensures.lends_read;
}
