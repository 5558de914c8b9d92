use Rattle.std.proofs.Common.{◌-◌, ◌+◌, ◌≤◌, length, take}
use Rattle.http_wire.specs.inner.ChunkDecoder.{DecodesBytes}
use Rattle.http_feed.proofs.chunk_data.ChunkData.read.Given as goal

abbrev pub invariant-decoding : goal.invariant-decoding
invariant-decoding l = record {
  inside : l.used ≤ length l.raw;
  reads : DecodesBytes l.fn.self.decoding (take l.used l.raw) l.self.decoding;
  room : length l.self.decoding.body + (length l.raw - l.used) ≤ l.self.capacity;
}

abbrev pub decreases-decoding : goal.decreases-decoding
decreases-decoding l = length l.raw - l.used
