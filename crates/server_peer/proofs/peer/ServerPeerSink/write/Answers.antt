use Rattle.std.proofs.Common.{◌≡◌, ℕ, ◌<◌, ◌≤◌, inr, List, ◌++◌, length, take, sym, ap, ◌∙◌, arith, append-nil}
use Rattle.xcap_io.specs.MemoryStreams.{count_plus_one}
use Rattle.server_peer.specs.Peers.{PeerOverServer}
use Rattle.server_peer.specs.BufferStates.{WrittenState}
use Rattle.server_peer.specs.contracts.peer.ServerPeer.{the_view}
use Rattle.server_peer.proofs.peer.ServerPeerSink.write.Goals as goal

pub returns-then-count-eq0-clause-as_memory_form : goal.returns-then-count-eq0-clause-as_memory_form
returns-then-count-eq0-clause-as_memory_form c =
    let inside = c.self.inside in
    let w : WrittenState = inside.written in
    let some : 0 < length c.args.piece.now = c.requires in
    let none : c.add-count.result ≡ 0 = c.if-count-eq0.true in
    let within : length w.bytes ≤ w.room = c.add-count.ensures.within_capacity in
    let full : length w.bytes ≡ w.room = omega (arith, some, none, within, c.add-count.ensures.exact) in
    let same : c.add-count.new.self ≡ w =
    c.add-count.ensures.appends_taken
    ∙ ap (λ (n : ℕ). record w { bytes = w.bytes ++ take n c.args.piece.now }) none
    ∙ ap (λ (l : List ℕ). record w { bytes = l }) (append-nil w.bytes) in (
      inr (ap (λ (p : PeerOverServer). length p.written.bytes) (sym c.self.view_is) ∙ full ∙ ap (λ (p : PeerOverServer). p.written.room) c.self.view_is),
      ap (λ (x : WrittenState). the_view (record inside { written = x; write_faults = c.count_fault-then-count-eq0.new.count })) same
          ∙ ap (λ (n : ℕ). the_view (record inside { write_faults = n })) c.count_fault-then-count-eq0.ensures.counts_one_more
          ∙ ap (λ (p : PeerOverServer). record p { write_faults = count_plus_one p.write_faults }) c.self.view_is,
    )
