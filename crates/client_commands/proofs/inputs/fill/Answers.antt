use Rattle.std.proofs.Common.{ℕ, List, ◌-◌, ◌∙◌, length, sym, subst, take}
use Rattle.xcap_io.specs.StreamTraffic.{GivesBytes}
use Rattle.xcap_io.proofs.TrafficSums.{gave_on}
use Rattle.http_wire.proofs.Buffers.{put_behind}
use Rattle.xcap_io.proofs.Lines.{reads_on}
use borrow.Rule.Slice.PartMut.{post_of}
use Rattle.client_commands.proofs.BufferLemmas.{behind_front}
use Rattle.client_commands.proofs.inputs.fill.Goals as goal

pub reading-preserved : goal.reading-preserved
reading-preserved g c =
    let so_far = c.reading.invariant in
    let call = c.in_ok-count.ensures in
    let buffer : List ℕ = c.reading.buffer in
    let piece : List ℕ = c.read.new.buf in
    let held : ℕ = c.reading.held in
    let count : ℕ = c.in_ok-count.count in
    let behind : List ℕ = post_of held (length buffer - held) buffer in
    record {
      within = behind_front buffer piece behind held count so_far.within call.in_bounds.0;
      consumed = subst (GivesBytes (g.I.Line.state c.args.input.now).inward (g.I.Line.state c.read.new.self).inward) (sym (put_behind buffer piece behind held count so_far.within call.in_bounds.0))
          (gave_on _ _ _ (take held buffer) (take count piece) so_far.consumed call.appends_read.0);
      reads = reads_on _ _ _ so_far.reads call.only_reads.reads;
      stayed = call.only_reads.counts ∙ so_far.stayed;
    }
