use Rattle.std.proofs.Common.{Ok, refl, subst}
use Rattle.xcap_io.specs.Connections.{OnlyAcceptsNext}
use Rattle.xcap_io.specs.declared.streams.Failed.{Failed}
use Rattle.xcap_io.specs.MemoryStreams.{MemoryPort, port_state}
use Rattle.xcap_io.specs.contracts.mem_port.MemPort.{the_view}
use Rattle.xcap_io.proofs.ConnectionStarts.{next_of}
use Rattle.xcap_io.proofs.mem_port.MemPortPort.next.Goals as goal

pub returns-clause-only_next : goal.returns-clause-only_next
returns-clause-only_next c =
    let new : MemoryPort = the_view (record c.self.inside { lines = c.begin_next.new.self; until_fault = c.is_failing_call.new.until_fault }) in
    subst (λ (m : MemoryPort). OnlyAcceptsNext {E = Failed} (port_state m) (port_state new) (Ok c.begin_next.result)) c.self.view_is
    (next_of Failed (the_view c.self.inside) new c.begin_next.result c.begin_next.ensures.begins_next refl refl)
