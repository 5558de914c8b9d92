use Rattle.halls.proofs.ShownConnections.{closed_shown, none_beyond, open_shown}
use Rattle.std.proofs.Common.{◌<◌, arith}
use Rattle.halls.proofs.mem_hall.MemHall.open_connection.Goals as goal

pub returns-then-number-self : goal.returns-then-number-self
returns-then-number-self c =
    let self = c.args.self.now in
    record { open_or_not = λ below. none_beyond self.begun c.args.number self.clients.items self.log.state self.counted self.within c.if-number-self.true below }

pub returns-then-is_closed : goal.returns-then-is_closed
returns-then-is_closed c =
    let self = c.args.self.now in
    let inside : c.args.number < self.begun = omega (arith, c.if-number-self.false) in
    record { open_or_not = λ below. closed_shown self.begun c.args.number self.clients.items self.log.state c.index-client.result.now c.is_closed.result self.counted self.within inside c.index-client.ensures c.is_closed.ensures.exact c.if-is_closed.true }

pub returns : goal.returns
returns c =
    let self = c.args.self.now in
    let inside : c.args.number < self.begun = omega (arith, c.if-number-self.false) in
    record { open_or_not = open_shown self.begun c.args.number c.place.result self.clients.items self.log.state c.index-client.result.now c.is_closed.result self.counted self.within inside c.index-client.ensures c.is_closed.ensures.exact c.if-is_closed.false c.place.ensures.exact }
