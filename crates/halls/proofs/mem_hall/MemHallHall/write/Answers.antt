use Rattle.halls.proofs.ShownConnections.{write_of_hall}
use Rattle.halls.proofs.mem_hall.MemHallHall.write.Goals as goal

pub returns-clause-only_writes : goal.returns-clause-only_writes
returns-clause-only_writes c =
    let self = c.args.self.now in
    write_of_hall c.args.id.number self.clients.items c.write_client-result.new.clients.items self.log.state c.with_call-self.result.state c.args.piece.now c.write_client-result.result c.write_client-result.ensures.writes c.with_call-self.ensures.call_is_logged
