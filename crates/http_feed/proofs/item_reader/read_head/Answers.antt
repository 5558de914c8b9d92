use Rattle.std.proofs.Common.{List, ℕ, [], inl, subst, sym, ◌∙◌}
use Rattle.http_wire.specs.declared.framing.Framing.TheVariants.{Coded as OtherCoding, Chunked}
use Rattle.http_wire.specs.inner.ChunkDecoder.{Decoding}
use Rattle.http_wire.specs.inner.ReadBuffer.{IsFramedHeadAt}
use Rattle.http_wire.proofs.ItemLemmas.{framed_on}
use Rattle.http_feed.specs.inner.Places.{IsInChunks}
use Rattle.http_feed.proofs.ReadPlaces.{chunks_begin, opened}
use Rattle.http_feed.proofs.item_reader.read_head.Goals as goal

pub returns-in-Coded-clause-answers : goal.returns-in-Coded-clause-answers
returns-in-Coded-clause-answers c =
    let bytes : List ℕ = c.args.held.now.bytes in
    let headers = c.rescan_head.new.headers in
    let found = rw c.bytes.ensures.exact at c.in-Head.ensures.head_of_all in
    let framed = rw c.bytes-2.ensures.exact at c.read_framing.ensures.fields_framing in
    let o : IsFramedHeadAt bytes headers c.in-Head.spans OtherCoding = opened bytes headers c.in-Head.spans OtherCoding found (sym framed ∙ c.in-Coded.is) in
    inl (λ more. ([], framed_on bytes more headers c.in-Head.spans OtherCoding o))

pub returns-in-Chunked-clause-answers : goal.returns-in-Chunked-clause-answers
returns-in-Chunked-clause-answers c =
    let bytes : List ℕ = c.args.held.now.bytes in
    let headers = c.rescan_head.new.headers in
    let spans = c.in-Head.spans in
    let found = rw c.bytes.ensures.exact at c.in-Head.ensures.head_of_all in
    let framed = rw c.bytes-2.ensures.exact at c.read_framing.ensures.fields_framing in
    let o : IsFramedHeadAt bytes headers spans Chunked = opened bytes headers spans Chunked found (sym framed ∙ c.in-Chunked.is) in
    c.read_chunks.ensures.answers bytes (subst (λ (d : Decoding). IsInChunks spans.len bytes d bytes) (sym c.clear.ensures.at_start) (chunks_begin bytes headers spans o))
