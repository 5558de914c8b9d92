use Rattle.std.proofs.Common.{◌≡◌, length}
use Rattle.xcap_io.specs.StreamStates.{DiffersByReads}
use Rattle.http_wire.specs.inner.ChunkDecoder.{bytes_left}
use Rattle.http_wire.specs.inner.ReadBuffer.{DecodesBodySoFar}
use Rattle.http_wire.proofs.Buffers.{buffered}
use Rattle.http_wire.proofs.body_decoder.decode_body.Given as goal

abbrev pub invariant-decoding : goal.invariant-decoding
invariant-decoding g l = record {
  decodes : DecodesBodySoFar l.fn.head (buffered l.fn.read_buffer (g.S.Line.state l.fn.source).inward) l.decoder (buffered l.read_buffer (g.S.Line.state l.source).inward) l.used;
  reads : DiffersByReads (g.S.Line.state l.fn.source) (g.S.Line.state l.source);
  no_fault : (g.S.Line.state l.source).read_faults ≡ (g.S.Line.state l.fn.source).read_faults;
}

abbrev pub decreases-decoding : goal.decreases-decoding
decreases-decoding g l = bytes_left l.decoder.stage (length l.decoder.body)
