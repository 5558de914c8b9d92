use Rattle.xcap_server.proofs.DurableSteps.{answered_durably}
use Rattle.xcap_server.proofs.durable_server.answer_durably.Goals as goal

pub returns-clause-machine_reply : goal.returns-clause-machine_reply
returns-clause-machine_reply g c =
    let state = g.L.ChangeLog.state in
    answered_durably c.server.inside.service c.args.server.now c.answer_durably.new.self c.server.view_is (state c.args.log.now) (state c.answer_durably.new.log)
    c.args.request.now c.answer_durably.result c.answer_durably.ensures.machine_reply
