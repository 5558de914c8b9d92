use Rattle.std.proofs.Common.{◌≡◌, ◌-◌, ℕ, length, drop, sym, ap, ◌∙◌, arith}
use Rattle.http_wire.proofs.Buffers.{length-between, between-rest}
use Rattle.http_wire.proofs.request_reader.ReadBuffer.consume.Goals as goal

pub returns : goal.returns
returns c = record {
  exact =
      let start : ℕ = c.self.inside.start in
      let end : ℕ = c.self.inside.end in
      let size : length c.args.self.now ≡ end - start = ap length (sym c.self.view_is) ∙ length-between c.self.inside.buffer.items start end (omega arith) (omega arith) in
      between-rest c.self.inside.buffer.items start end c.args.count (omega (arith, size, c.requires)) ∙ ap (drop c.args.count) c.self.view_is;
}
