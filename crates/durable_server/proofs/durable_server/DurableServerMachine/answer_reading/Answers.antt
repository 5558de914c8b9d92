use Rattle.durable_server.proofs.Steps.{lent_closes, lent_steps}
use Rattle.durable_server.proofs.durable_server.DurableServerMachine.answer_reading.Goals as goal

pub returns : goal.returns
returns g c = record {
  makes_step = lent_steps c.args.self.now.server (g.L.ChangeLog.state c.args.self.now.log) c.args.request.now c.answer_reading.result c.answer_reading.ensures.lends_found;
  closes_as_asked = lent_closes c.args.self.now.server (g.L.ChangeLog.state c.args.self.now.log) c.args.request.now c.answer_reading.result c.answer_reading.ensures.lends_found;
}
