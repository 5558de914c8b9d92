use Rattle.xcap_server.proofs.LoggedServers.{answered_logged, records_logged, states_too}
use Rattle.xcap_server.proofs.logged_server.answer_logged.Goals as goal

pub returns-clause-machine_reply : goal.returns-clause-machine_reply
returns-clause-machine_reply g c =
    let j = g.J.Journal.state in
    answered_logged c.server.inside.service c.args.server.now c.answer_logged.new.self c.server.view_is c.args.log.now c.answer_logged.new.log (j c.args.journal.now) (j c.answer_logged.new.journal)
    c.args.request.now c.answer_logged.result c.answer_logged.ensures.machine_reply

pub returns-clause-keeps_records : goal.returns-clause-keeps_records
returns-clause-keeps_records g c =
    let j = g.J.Journal.state in
    records_logged c.server.inside.service c.args.server.now c.answer_logged.new.self c.server.view_is c.args.log.now c.answer_logged.new.log (j c.args.journal.now) (j c.answer_logged.new.journal)
    c.args.request.now c.answer_logged.result c.answer_logged.ensures.machine_reply
    (states_too c.server.inside.service c.args.server.now c.answer_logged.new.self c.server.view_is c.args.log.now c.answer_logged.new.log (j c.args.journal.now) (j c.answer_logged.new.journal)
    c.args.request.now _ _ j c.args.journal.now c.answer_logged.new.journal c.answer_logged.result c.answer_logged.ensures.err_unchanged)
