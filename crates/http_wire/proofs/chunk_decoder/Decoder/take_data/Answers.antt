use Rattle.std.proofs.Common.{rules, ℕ, List, take, ap, ◌∙◌, arith}
use Rattle.std.proofs.lemmas.List.{places, with_items_is}
use Rattle.http_wire.specs.inner.ChunkDecoder.{Decoding}
use Rattle.http_wire.proofs.Steps.{data_taken}
use Rattle.http_wire.proofs.chunk_decoder.Decoder.take_data.Goals as goal

pub returns-clause-reads_on : goal.returns-clause-reads_on
returns-clause-reads_on c =
    data_taken c.args.self.now c.args.left c.min-count.result c.self.inside.decoded c.args.raw.now c.deref_mut.result.now c.copy_from_slice.new.self _ _
    c.requires.data_stage
    (with_items_is c.self.inside.buffer _ (search (rules, places)))
    c.copy_from_slice.ensures.after
    (ap (λ (l : List ℕ). take c.self.inside.decoded l) c.deref_mut.ensures.value ∙ ap (λ (d : Decoding). d.body) c.self.view_is)
    (omega arith)
    (omega (arith, c.min-count.ensures))
    (omega (arith, c.min-count.ensures))
