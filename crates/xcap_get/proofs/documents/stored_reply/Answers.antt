use Rattle.std.proofs.Common.{None, Some, refl, ap}
use Rattle.std.proofs.lemmas.Result.{IfOk-weaker}
use Rattle.xcap_machine.specs.Answers.{reply_only}
use Rattle.xcap_machine.specs.Resources.{there}
use Rattle.xcap_get.proofs.documents.stored_reply.Goals as goal

pub returns-in-Some-clause-machine_reply : goal.returns-in-Some-clause-machine_reply
returns-in-Some-clause-machine_reply c =
    let held = c.requires.stored_there in
    let stops = rw c.in-Some.is at c.in_ok-reply.ensures.exact in
    (there held.0 c.args.tag, held.2, (Some c.in-Some.reply, stops, refl))

pub returns-in-None-clause-machine_reply : goal.returns-in-None-clause-machine_reply
returns-in-None-clause-machine_reply c =
    let stops = rw c.in-None.is at c.in_ok-reply.ensures.exact in
    IfOk-weaker c.printed_reply.result _ _ (λ reply sent. (there sent.0 c.args.tag, sent.1, (None, stops, ap reply_only sent.2))) c.printed_reply.ensures.sends_printed
