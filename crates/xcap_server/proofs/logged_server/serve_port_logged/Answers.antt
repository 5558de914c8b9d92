use Rattle.xcap_server.proofs.LoggedServers.{port_logged}
use Rattle.xcap_server.proofs.logged_server.serve_port_logged.Goals as goal

pub returns-clause-machine_session : goal.returns-clause-machine_session
returns-clause-machine_session g c =
    let j = g.J.Journal.state in
    let p = g.P.Line.state in
    port_logged g.W.Watchers.keeps c.server.inside.service c.args.server.now c.serve_streams_logged.new.machine c.server.view_is c.args.count c.serve_streams_logged.result
    c.args.log.now c.serve_streams_logged.new.log (j c.args.journal.now) (j c.serve_streams_logged.new.journal) (p c.args.port.now) (p c.serve_streams_logged.new.port) c.args.watchers.now c.serve_streams_logged.new.watchers
    c.serve_streams_logged.ensures.serves_port
