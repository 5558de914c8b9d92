use Rattle.std.proofs.Common.{◌≡◌, ◌-◌, ◌≤◌, List, ℕ, ◌++◌, length, take, sym, subst, ap, ◌∙◌, arith}
use Rattle.http_wire.specs.declared.chunk_decoder.ChunkState.TheVariants.{Data}
use Rattle.http_wire.specs.inner.ChunkDecoder.{decoding, DecodesBytes}
use Rattle.http_feed.specs.inner.Buffers.{ChunkDataState}
use Rattle.http_feed.proofs.DataSteps.{data_added}
use Rattle.http_feed.proofs.chunk_data.ChunkData.take_data.Goals as goal

pub returns-clause-reads_on : goal.returns-clause-reads_on
returns-clause-reads_on c =
    let d = c.args.self.now.decoding in
    let count = c.min-count.result in
    let part : List ℕ = take count c.args.raw.now in
    let added : c.extend_from_slice.new.self.items ≡ d.body ++ part = c.in-Ok.ensures.items ∙ ap (λ (l : List ℕ). l ++ part) (ap (λ (d : ChunkDataState). d.decoding.body) c.self.view_is) in
    subst (λ (l : List ℕ). DecodesBytes d part (decoding (Data (c.args.left - count)) l)) (sym added)
    (data_added d c.args.left count c.args.raw.now c.requires.data_stage (omega (arith, c.min-count.ensures)) (omega (arith, c.min-count.ensures)))
