use Rattle.std.proofs.Common.{◌≡◌, ◌-◌, ◌+◌, ℕ, length, drop, slice_range, sym, ap, ◌∙◌, arith}
use Rattle.http_wire.proofs.Buffers.{length-between, between-rest}
use Rattle.edit_journal.specs.inner.ReadBuffer.{ReadBufferState}
use Rattle.edit_journal.proofs.read_buffer.ReadBuffer.consume.Goals as goal

pub returns : goal.returns
returns c =
    let buffer = c.self.inside.buffer.items in
    let start : ℕ = c.self.inside.start in
    let end : ℕ = c.self.inside.end in
    let is : slice_range buffer start end ≡ c.args.self.now.held = ap (λ (i : ReadBufferState). i.held) c.self.view_is in
    let taken : c.self.inside.taken ≡ c.args.self.now.taken = ap (λ (i : ReadBufferState). i.taken) c.self.view_is in
    let size : length c.args.self.now.held ≡ end - start = ap length (sym is) ∙ length-between buffer start end (omega arith) (omega arith) in
    let rest : slice_range buffer (start + c.args.count) end ≡ drop c.args.count c.args.self.now.held =
    between-rest buffer start end c.args.count (omega (arith, size, c.requires)) ∙ ap (drop c.args.count) is in
    record { exact = λ i. record { held = rest i; taken = taken i } }
