use Rattle.std.proofs.Common.{◌≡◌, ◌<◌, ℕ, length, ap, sym, ◌∙◌, arith}
use Rattle.std.proofs.lemmas.List.{length-take-le}
use Rattle.xcap_io.specs.MemoryStreams.{MemoryStream, count_plus_one}
use Rattle.xcap_io.specs.contracts.mem_stream.MemStream.{the_view}
use Rattle.xcap_io.proofs.mem_stream.MemStreamSink.write.Goals as goal

pub returns-then-count-eq0-clause-as_memory_form : goal.returns-then-count-eq0-clause-as_memory_form
returns-then-count-eq0-clause-as_memory_form c =
    let inside = c.self.inside in
    let some : 0 < length c.args.piece.now = c.requires in
    let size : c.len.result ≡ length inside.output.items = grind (arith, c.len.ensures) in
    let full : inside.held ≡ length inside.output.items = omega (arith, c.self.invariant.2, c.min-count.ensures) in (
      ap (λ (m : MemoryStream). length m.taken) (sym c.self.view_is) ∙ length-take-le inside.held inside.output.items (omega arith) ∙ full ∙ ap (λ (m : MemoryStream). m.room) c.self.view_is,
      ap (λ (n : ℕ). the_view (record inside { write_faults = n })) c.count_fault.ensures.counts_one_more ∙ ap (λ (m : MemoryStream). record m { write_faults = count_plus_one m.write_faults }) c.self.view_is,
    )
