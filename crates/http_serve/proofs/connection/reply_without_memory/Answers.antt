use Rattle.std.proofs.Common.{None, refl}
use Rattle.http_serve.specs.ReplyBytes.{StepsInBytes}
use Rattle.http_serve.proofs.LentAnswers.{fixed_answer}
use Rattle.http_serve.proofs.connection.reply_without_memory.Goals as goal

pub returns-in-Some-clause-sends_answer : goal.returns-in-Some-clause-sends_answer
returns-in-Some-clause-sends_answer g c = record { reply = c.in-Some.lent; answers = c.in-Some.ensures.request_answer; sends = c.send_lent.ensures.sends }

pub returns-in-None-clause-sends_answer : goal.returns-in-None-clause-sends_answer
returns-in-None-clause-sends_answer g c = record {
  reply = c.fixed-reply.result;
  answers = fixed_answer (StepsInBytes g.M.Machine.steps) c.args.machine.now c.args.machine.now c.args.asked.now c.fixed-reply.result None c.requires.is_request (c.fixed-reply.ensures.exact, refl, refl);
  sends = c.send_reply.ensures.sends;
}
