use Rattle.durable_server.proofs.KeptSteps.{hall_kept}
use Rattle.durable_server.proofs.hall_serving.serve_hall.Goals as goal

pub returns-clause-machine_session : goal.returns-clause-machine_session
returns-clause-machine_session g c =
    let h = g.H.Hall.state in
    let log = g.L.ChangeLog.state in
    hall_kept c.args.server.now c.serve_hall.new.machine (λ s. record { machine = s.server; log = log s.log }) g.W.Watchers.keeps c.serve_hall.result.memory_failures
    (h c.args.hall.now) (h c.serve_hall.new.hall) c.args.seats.now c.serve_hall.new.seats c.args.watchers.now c.serve_hall.new.watchers c.serve_hall.ensures.serves_on
