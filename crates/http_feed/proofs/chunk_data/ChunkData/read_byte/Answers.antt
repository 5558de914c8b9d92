use Rattle.std.proofs.Common.{rules, ◌≡◌, length, sym, subst, ap, ◌∙◌}
use Rattle.http_wire.specs.declared.chunk_decoder.ChunkState.{ChunkState}
use Rattle.http_wire.specs.inner.ChunkDecoder.{IsWithinLimits, expects_data, next_state}
use Rattle.http_wire.proofs.Steps.{fits_next}
use Rattle.http_feed.specs.inner.Buffers.{ChunkDataState}
use Rattle.http_feed.proofs.chunk_data.ChunkData.read_byte.Goals as goal

pub invariant_of-self : goal.invariant_of-self
invariant_of-self c =
    let count = length c.self.inside.bytes.items in
    let size : c.len.result ≡ count = search rules in
    let states : c.self.inside.state ≡ c.args.self.now.decoding.stage = ap (λ (d : ChunkDataState). d.decoding.stage) c.self.view_is in
    let fits = fits_next c.self.inside.state count c.args.byte c.self.invariant (ap expects_data states ∙ c.requires.not_data) in
    let next : c.next_state-self-inside.result ≡ next_state c.self.inside.state count c.args.byte = rw size at c.next_state-self-inside.ensures.exact in
    subst (λ (s : ChunkState). IsWithinLimits s count) (sym next) fits
