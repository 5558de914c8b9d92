use Rattle.std.proofs.Common.{arith, length-take, length-drop}
use Rattle.http_wire.proofs.Steps.{reads_next}
use Rattle.http_wire.proofs.chunk_decoder.Decoder.feed.Goals as goal

pub loop-used-preserved : goal.loop-used-preserved
loop-used-preserved c =
    let inside = c.loop-used.invariant.inside in
    let room = c.advance-used.ensures.takes_some.1 in
    record {
      inside = omega (arith, simp (length-take, length-drop) at room);
      reads = reads_next c.args.self.now c.loop-used.self c.advance-used.new.self c.loop-used.used c.advance-used.result c.args.raw.now inside c.loop-used.invariant.reads c.advance-used.ensures.reads_on;
    }
