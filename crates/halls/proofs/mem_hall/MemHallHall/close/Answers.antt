use Rattle.halls.proofs.ShownConnections.{close_of_hall}
use Rattle.halls.proofs.mem_hall.MemHallHall.close.Goals as goal

pub returns : goal.returns
returns c =
    let self = c.args.self.now in
    record { closes = close_of_hall c.args.id.number self.clients.items c.close_client.new.clients.items self.log.state c.with_call-self.result.state c.close_client.ensures.closes c.with_call-self.ensures.call_is_logged }
