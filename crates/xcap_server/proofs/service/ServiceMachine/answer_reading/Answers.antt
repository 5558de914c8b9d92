use Rattle.xcap_server.proofs.LentAnswers.{lends_closing, lends_step}
use Rattle.xcap_server.proofs.service.ServiceMachine.answer_reading.Goals as goal

pub returns : goal.returns
returns c = record {
  makes_step = lends_step c.args.self.now c.args.request.now c.lend.result c.lend.ensures.lends_found;
  closes_as_asked = lends_closing c.args.self.now c.args.request.now c.lend.result c.lend.ensures.lends_found;
}
