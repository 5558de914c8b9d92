use Rattle.halls.proofs.ShownConnections.{next_of_hall, read_of_hall}
use Rattle.halls.proofs.mem_hall.MemHallHall.read.Goals as goal

pub returns-clause-next_bytes : goal.returns-clause-next_bytes
returns-clause-next_bytes c =
    let self = c.args.self.now in
    next_of_hall self.begun c.args.id.number self.clients.items c.read_client-result.new.clients.items self.log.state c.read_client-result.new.buf c.read_client-result.result self.counted self.within c.requires.open.begun c.read_client-result.ensures.reads

pub returns-clause-only_reads : goal.returns-clause-only_reads
returns-clause-only_reads c =
    let self = c.args.self.now in
    read_of_hall self.begun c.args.id.number self.clients.items c.read_client-result.new.clients.items self.log.state c.with_call-self.result.state c.read_client-result.new.buf c.read_client-result.result self.counted c.read_client-result.ensures.reads c.with_call-self.ensures.call_is_logged
