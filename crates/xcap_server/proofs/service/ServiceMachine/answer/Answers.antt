use Rattle.std.proofs.Common.{refl}
use Rattle.xcap_server.proofs.ServerStates.{answered_closes}
use Rattle.xcap_server.proofs.service.ServiceMachine.answer.Goals as goal

pub returns-clause-closes_as_asked : goal.returns-clause-closes_as_asked
returns-clause-closes_as_asked c = answered_closes c.args.self.now c.args.self.now c.respond.new.self refl c.args.request.now c.respond.result c.respond.ensures.machine_reply
