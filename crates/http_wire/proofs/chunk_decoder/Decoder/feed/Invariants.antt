use Rattle.std.proofs.Common.{length, ◌-◌, ◌≤◌, take}
use Rattle.http_wire.specs.inner.ChunkDecoder.{DecodesBytes}
use Rattle.http_wire.proofs.chunk_decoder.Decoder.feed.Given as goal

abbrev pub invariant-loop-used : goal.invariant-loop-used
invariant-loop-used l = record {
  inside : l.used ≤ length l.raw;
  reads : DecodesBytes l.fn.self (take l.used l.raw) l.self;
}

abbrev pub decreases-loop-used : goal.decreases-loop-used
decreases-loop-used l = length l.raw - l.used
