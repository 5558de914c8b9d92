use Rattle.halls.proofs.ShownConnections.{wait_of_hall}
use Rattle.halls.proofs.mem_hall.MemHallHall.wait.Goals as goal

pub returns-clause-counts_wait : goal.returns-clause-counts_wait
returns-clause-counts_wait c =
    let self = c.args.self.now in
    let next = c.next_event-result in
    wait_of_hall self.clients.items next.new.self.clients.items self.log.state next.new.self.log.state c.with_call-self.result.state c.args.takes_more next.result next.ensures.same_clients next.ensures.same_log c.with_call-self.ensures.call_is_logged
