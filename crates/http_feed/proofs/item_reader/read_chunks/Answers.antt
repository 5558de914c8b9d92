use Rattle.std.proofs.Common.{List, ℕ, length, take, drop, ap, ◌∙◌}
use Rattle.http_wire.specs.inner.ChunkDecoder.{DecodesBytes}
use Rattle.http_feed.proofs.ReadPlaces.{lent}
use Rattle.http_feed.proofs.item_reader.read_chunks.Goals as goal

pub returns-clause-answers : goal.returns-clause-answers
returns-clause-answers c =
    let bytes : List ℕ = c.args.held.now.bytes in
    let d = c.args.chunks.now.decoding in
    let rest = lent c.args.head c.bytes.result.now bytes c.bytes.ensures.exact in
    let reads : DecodesBytes d (take c.in_ok-used.used (drop c.args.head bytes)) c.feed.new.self.decoding = rw rest at c.in_ok-used.ensures.reads_on in
    λ given i. c.read_used.ensures.answers given d i reads (λ going. c.in_ok-used.ensures.all_unless_settled going ∙ ap length rest)
