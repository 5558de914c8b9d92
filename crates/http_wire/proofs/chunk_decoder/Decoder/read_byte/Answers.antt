use Rattle.std.proofs.Common.{◌≡◌, sym, subst, ap, ◌∙◌}
use Rattle.http_wire.specs.declared.chunk_decoder.ChunkState.{ChunkState}
use Rattle.http_wire.specs.inner.ChunkDecoder.{Decoding, IsWithinLimits, expects_data}
use Rattle.http_wire.proofs.Steps.{fits_next}
use Rattle.http_wire.proofs.chunk_decoder.Decoder.read_byte.Goals as goal

pub invariant_of-self : goal.invariant_of-self
invariant_of-self c =
    let stages : c.self.inside.stage ≡ c.args.self.now.stage = ap (λ (d : Decoding). d.stage) c.self.view_is in
    let next = fits_next c.self.inside.stage c.self.inside.decoded c.args.byte c.self.invariant.2 (ap expects_data stages ∙ c.requires.not_data) in
    (c.self.invariant.0, c.self.invariant.1, subst (λ (s : ChunkState). IsWithinLimits s c.self.inside.decoded) (sym c.next_state-self-inside.ensures.exact) next)
