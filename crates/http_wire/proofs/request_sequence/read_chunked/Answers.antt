use Rattle.std.proofs.Common.{◌≡◌, ℕ, List, ◌∙◌, inl, inr}
use Rattle.std.proofs.lemmas.Result.{err_from_is_err_and}
use Rattle.http_wire.specs.ConnectionItems.{request_of}
use Rattle.http_wire.specs.inner.ReadBuffer.{IsHeadAt}
use Rattle.http_wire.proofs.Fronts.{head_at_same}
use Rattle.http_wire.proofs.ItemLemmas.{chunks_unfinished, chunks_bad, chunks_cut, chunks_long, chunks_whole, chunks_no_memory, request_at}
use Rattle.http_wire.proofs.request_sequence.read_chunked.Goals as goal

pub returns-in_err-end-clause-first_item : goal.returns-in_err-end-clause-first_item
returns-in_err-end-clause-first_item g c =
    let p = err_from_is_err_and c.from_residual.result c.from_residual.ensures.1 in
    rw p.1 (chunks_unfinished c.args.before c.args.read_buffer.now _ c.decode_body.new.decoder.body c.decode_body.new.read_buffer _ c.args.headers.now c.args.spans.now _ c.requires c.in_err-end.ensures.decodes_body)

pub returns-in-Ok-clause-first_item : goal.returns-in-Ok-clause-first_item
returns-in-Ok-clause-first_item g c =
    let held : List ℕ = c.decode_body.new.read_buffer in
    let headers = c.args.headers.now in
    let spans = c.args.spans.now in
    let d = rw c.in-Whole.is at c.in_ok-end.ensures.decodes_body in
    let at : IsHeadAt held headers spans c.requires.head = head_at_same c.args.read_buffer.now held headers spans c.requires.head c.requires.at d.same_head in
    let same = c.bytes.ensures.exact in
    let is : c.in-Ok.request ≡ request_of c.args.before c.requires.head c.decode_body.new.decoder.body =
    request_at c.args.before held headers spans c.requires.head c.in-Ok.request c.decode_body.new.decoder.body at (rw same at c.in-Ok.ensures.method_of_head) (rw same at c.in-Ok.ensures.target_of_head) (rw same at c.in-Ok.ensures.closes_as_asked) (rw same at c.in-Ok.ensures.fields_of_head) (c.in-Ok.ensures.given_body ∙ c.body.ensures.exact) in
    rw c.consume.ensures.exact (chunks_whole c.args.before c.args.read_buffer.now _ c.decode_body.new.decoder.body held _ headers spans c.in-Whole.end c.in-Ok.request c.requires d is)

pub returns-in-Err-clause-first_item : goal.returns-in-Err-clause-first_item
returns-in-Err-clause-first_item g c =
    let d = rw c.in-Whole.is at c.in_ok-end.ensures.decodes_body in
    chunks_no_memory c.args.before c.args.read_buffer.now _ c.decode_body.new.decoder.body c.decode_body.new.read_buffer _ c.args.headers.now c.args.spans.now c.in-Whole.end c.requires d

pub returns-in-TooLong-clause-first_item : goal.returns-in-TooLong-clause-first_item
returns-in-TooLong-clause-first_item g c =
    let d = rw c.in-TooLong.is at c.in_ok-end.ensures.decodes_body in
    chunks_long c.args.before c.args.read_buffer.now _ c.decode_body.new.decoder.body c.decode_body.new.read_buffer _ c.args.headers.now c.args.spans.now c.requires d

pub returns-in-Bad-clause-first_item : goal.returns-in-Bad-clause-first_item
returns-in-Bad-clause-first_item g c = elim c.in-Bad.is [
  | inl bad ↦ chunks_bad c.args.before c.args.read_buffer.now _ c.decode_body.new.decoder.body c.decode_body.new.read_buffer _ c.args.headers.now c.args.spans.now c.requires (rw bad at c.in_ok-end.ensures.decodes_body)
  | inr cut ↦ chunks_cut c.args.before c.args.read_buffer.now _ c.decode_body.new.decoder.body c.decode_body.new.read_buffer _ c.args.headers.now c.args.spans.now c.requires (rw cut at c.in_ok-end.ensures.decodes_body)
]
