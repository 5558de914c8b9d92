use Rattle.host_status.proofs.StatusAnswers.{status_closes, status_step}
use Rattle.host_status.proofs.status_server.StatusServer.respond_with_status.Goals as goal

pub returns-clause-makes_step : goal.returns-clause-makes_step
returns-clause-makes_step c =
    status_step c.self.inside.server c.args.self.now c.self.view_is c.args.request.now c.in_ok-reply.reply c.self.inside.counts c.requires.asked c.in_ok-reply.ensures.ok

pub returns-clause-closes_as_asked : goal.returns-clause-closes_as_asked
returns-clause-closes_as_asked c =
    status_closes c.self.inside.server c.args.self.now c.self.view_is c.args.request.now c.in_ok-reply.reply c.self.inside.counts c.in_ok-reply.ensures.ok
