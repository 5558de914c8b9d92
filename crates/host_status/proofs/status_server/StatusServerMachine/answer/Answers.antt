use Rattle.std.proofs.Common.{subst, sym}
use Rattle.xcap_machine.specs.ServerStates.{ServerState}
use Rattle.host_status.specs.inner.StatusServers.{AnswersAsHost}
use Rattle.host_status.proofs.status_server.StatusServerMachine.answer.Goals as goal

pub returns-clause-makes_step : goal.returns-clause-makes_step
returns-clause-makes_step c =
    let a = c.in_ok-answered.answered in
    subst (λ (s : ServerState). AnswersAsHost c.args.self.now c.args.request.now a.reply s a.edit) (sym c.count_answer.ensures.same_server) c.in_ok-answered.ensures.makes_step
