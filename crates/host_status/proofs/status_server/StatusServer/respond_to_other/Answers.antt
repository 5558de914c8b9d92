use Rattle.host_status.proofs.StatusAnswers.{other_step}
use Rattle.host_status.proofs.status_server.StatusServer.respond_to_other.Goals as goal

pub returns-clause-makes_step : goal.returns-clause-makes_step
returns-clause-makes_step c =
    other_step c.self.inside.server c.args.self.now c.self.view_is c.args.request.now c.answer.new.server c.answer.result c.requires.other c.answer.ensures.same_root c.answer.ensures.machine_step
