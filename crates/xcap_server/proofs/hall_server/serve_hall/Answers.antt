use Rattle.std.proofs.Common.{ℕ, ◌+◌, length, subst}
use Rattle.hall_serve.specs.ServedHalls.{MakesTurns}
use Rattle.xcap_machine.specs.ServerStates.{ServerState}
use Rattle.xcap_server.proofs.HallSimulations.{hall_stands}
use Rattle.xcap_server.proofs.hall_server.serve_hall.Goals as goal

pub returns-clause-machine_session : goal.returns-clause-machine_session
returns-clause-machine_session g c =
    let h = g.H.Hall.state in
    hall_stands g.W.Watchers.keeps c.server.inside.service c.args.server.now c.serve_hall.new.machine c.server.view_is c.serve_hall.result.memory_failures
    (h c.args.hall.now) (h c.serve_hall.new.hall) c.args.seats.now c.serve_hall.new.seats c.args.watchers.now c.serve_hall.new.watchers c.serve_hall.ensures.serves_on

pub returns-clause-turns : goal.returns-clause-turns
returns-clause-turns g c =
    let h = g.H.Hall.state in
    subst (λ (x : ServerState). (made : ℕ) × MakesTurns g.W.Watchers.keeps (length (h c.args.hall.now).connections + c.args.count) made
    (record { machine = x; hall = h c.args.hall.now; seats = c.args.seats.now; watchers = c.args.watchers.now })
    (record { machine = c.serve_hall.new.machine; hall = h c.serve_hall.new.hall; seats = c.serve_hall.new.seats; watchers = c.serve_hall.new.watchers }))
    c.server.view_is c.serve_hall.ensures.turns
