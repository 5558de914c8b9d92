use Rattle.std.proofs.Common.{sym, ◌∙◌}
use Rattle.xcap_server.proofs.Dispatch.{read_only_refused, writing_refused}
use Rattle.xcap_server.proofs.request_decisions.write_access.Goals as goal

pub returns-in_default : goal.returns-in_default
returns-in_default c = record {
  continues_or_replies = λ server method writes.
      read_only_refused server c.args.target c.args.request.now method c.method.result writes c.in_default.ensures.same_target c.method.ensures.exact;
}

pub returns-in-Some-usage : goal.returns-in-Some-usage
returns-in-Some-usage c = record {
  continues_or_replies = (c.in-Some.ensures.same_target.0, c.in-Some.ensures.same_target.1, sym c.usage_to_write-usage.ensures.exact ∙ c.in-Some-usage.is);
}

pub returns-in-None : goal.returns-in-None
returns-in-None c = record {
  continues_or_replies = λ server method writes.
      writing_refused server c.args.target c.args.request.now method c.fixed.result writes c.in-Some.ensures.same_target.0 (sym c.usage_to_write-usage.ensures.exact ∙ c.in-None.is) c.fixed.ensures.exact;
}
