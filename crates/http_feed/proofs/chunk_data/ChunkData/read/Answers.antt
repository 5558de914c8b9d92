use Rattle.std.proofs.Common.{arith, length-take, length-drop}
use Rattle.http_wire.proofs.Steps.{reads_next}
use Rattle.http_feed.proofs.chunk_data.ChunkData.read.Goals as goal

pub decoding-preserved : goal.decoding-preserved
decoding-preserved c =
    let inside = c.decoding.invariant.inside in
    let some = simp (length-take, length-drop) at c.advance-used.ensures.takes_some.1 in
    let room = simp (length-take, length-drop) at c.advance-used.ensures.room_left in
    record {
      inside = omega (arith, some);
      reads = reads_next c.args.self.now.decoding c.decoding.self.decoding c.advance-used.new.self.decoding c.decoding.used c.advance-used.result c.args.raw.now inside c.decoding.invariant.reads c.advance-used.ensures.reads_on;
      room = omega (arith, some, room);
    }
