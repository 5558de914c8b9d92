use Rattle.std.proofs.Common.{◌<◌, length, arith}
use Rattle.halls.proofs.ShownConnections.{accept_of_hall, next_is_named}
use Rattle.halls.proofs.mem_hall.MemHallHall.accept.Goals as goal

pub returns-clause-begins : goal.returns-clause-begins
returns-clause-begins c =
    let self = c.args.self.now in
    let below : self.begun < length self.clients.items = omega (arith, c.if-self-len.false, c.len.ensures, self.within, self.clients.ok.0) in
    accept_of_hall self.begun c.args.place self.clients.items self.log.state c.with_call-self-2.result.state c.index_mut-client.result.now c.connect.new.self self.counted below c.index_mut-client.ensures.value c.connect.ensures.connects c.with_call-self-2.ensures.call_is_logged

pub returns-clause-named : goal.returns-clause-named
returns-clause-named c =
    let self = c.args.self.now in
    let below : self.begun < length self.clients.items = omega (arith, c.if-self-len.false, c.len.ensures, self.within, self.clients.ok.0) in
    next_is_named self.begun c.args.place self.clients.items self.log.state self.counted below
