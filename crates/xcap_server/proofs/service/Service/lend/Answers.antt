use Rattle.std.proofs.Common.{IfOk, subst}
use Rattle.xcap_get.specs.LentReplies.{LendsFoundReply}
use Rattle.xcap_machine.specs.ServerStates.{ServerState}
use Rattle.xcap_server.proofs.service.Service.lend.Goals as goal

pub returns : goal.returns
returns c = record {
  lends_found =
      subst (λ (s : ServerState). IfOk c.lend_answer.result (λ lent. LendsFoundReply s.root s.content c.args.request.now lent)) c.self.view_is c.lend_answer.ensures.lends_found;
}
