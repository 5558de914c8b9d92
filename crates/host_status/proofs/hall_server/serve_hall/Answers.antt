use Rattle.host_status.proofs.HostSimulations.{hall_hosted}
use Rattle.host_status.proofs.hall_server.serve_hall.Goals as goal

pub returns-clause-machine_session : goal.returns-clause-machine_session
returns-clause-machine_session g c =
    let h = g.H.Hall.state in
    hall_hosted g.W.Watchers.keeps c.args.server.now c.serve_hall.new.machine c.serve_hall.result.memory_failures
    (h c.args.hall.now) (h c.serve_hall.new.hall) c.args.seats.now c.serve_hall.new.seats c.args.watchers.now c.serve_hall.new.watchers c.serve_hall.ensures.serves_on
