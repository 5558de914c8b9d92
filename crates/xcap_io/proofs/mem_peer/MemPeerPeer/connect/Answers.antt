use Rattle.std.proofs.Common.{◌∷◌, refl, subst, ap, ◌∙◌}
use Rattle.xcap_io.specs.Connections.{Connects}
use Rattle.xcap_io.specs.MemoryStreams.{MemoryPeer, peer_state}
use Rattle.xcap_io.specs.contracts.mem_peer.MemPeer.{the_view}
use Rattle.xcap_io.proofs.ConnectionStarts.{connects_to}
use Rattle.xcap_io.proofs.mem_peer.MemPeerPeer.connect.Goals as goal

pub returns-clause-only_connects : goal.returns-clause-only_connects
returns-clause-only_connects c =
    let new : MemoryPeer = the_view (record c.self.inside { lines = c.begin_next.new.self; until_fault = c.is_failing_call.new.until_fault; addresses = c.add.new.self }) in
    subst (λ (m : MemoryPeer). Connects (peer_state m) (peer_state new) c.args.address.now) c.self.view_is
    (connects_to (the_view c.self.inside) new c.args.address.now c.if-not-begin_next.ensures.begins_next
    (c.add.ensures.exact ∙ ap (λ l. l ∷ c.self.inside.addresses.texts) c.as_bytes.ensures.value) refl)
