use Rattle.std.proofs.Common.{[], ◌++◌, sym, subst}
use Rattle.xcap_io.specs.StreamWrites.{WritesAll}
use Rattle.xcap_io.proofs.BufferPieces.{adds_both, adds_written}
use Rattle.xcap_io.proofs.write_buffer.put.Goals as goal

pub returns : goal.returns
returns g c = record {
  appends_piece =
      let none = c.in_ok-flush.ensures.leaves_nothing_gathered in let piece = c.args.piece.now in let line = g.S.Line.state in
      adds_both (line c.args.sink.now) c.args.write_buffer.now (line c.flush.new.sink) c.flush.new.write_buffer (line c.write_all.new.sink) c.flush.new.write_buffer c.write_all.result [] piece c.in_ok-flush.ensures.flushes_in_order
      (adds_written (line c.flush.new.sink) (line c.write_all.new.sink) c.flush.new.write_buffer c.flush.new.write_buffer c.write_all.result piece none
      (subst (λ h. WritesAll (line c.flush.new.sink).taken (line c.write_all.new.sink).taken c.write_all.result (h ++ piece)) (sym none) c.write_all.ensures.all_or_prefix) c.write_all.ensures.only_writes);
}
