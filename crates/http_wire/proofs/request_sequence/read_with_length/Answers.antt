use Rattle.std.proofs.Common.{◌≡◌, ◌+◌, ◌≤◌, ℕ, List, length, drop, slice_range, refl}
use Rattle.std.proofs.lemmas.Result.{err_from_is_err_and}
use Rattle.http_wire.specs.declared.framing.Framing.TheVariants.{Length}
use Rattle.http_wire.specs.declared.request.Asked.TheVariants.{Request as Requested, NoMemory}
use Rattle.http_wire.specs.declared.request.Request.{Request}
use Rattle.std.specs.Prelude.{Ok}
use Rattle.http_wire.specs.ConnectionItems.{request_of}
use Rattle.http_wire.specs.inner.ReadBuffer.{IsFramedHeadAt}
use Rattle.http_wire.proofs.ItemLemmas.{open_gains, asks_after, asks_now, asks_cut, asks_unfinished, asks_plain, request_at}
use Rattle.http_wire.proofs.request_sequence.read_with_length.Goals as goal

pub returns-in_err-fill_to-clause-first_item : goal.returns-in_err-fill_to-clause-first_item
returns-in_err-fill_to-clause-first_item g c =
    let p = err_from_is_err_and c.from_residual.result c.from_residual.ensures.1 in
    rw p.1 (asks_unfinished c.args.before c.args.read_buffer.now c.fill_to.new.self _ _ c.args.headers.now c.args.spans.now c.args.len _ c.requires.open_at c.in_err-fill_to.ensures.gains_source_bytes c.in_err-fill_to.ensures.err_before_enough)

pub returns-then-not-branch-clause-first_item : goal.returns-then-not-branch-clause-first_item
returns-then-not-branch-clause-first_item g c =
    let ended = rw c.if-not-branch.true at c.in_ok-fill_to.ensures.enough_or_ended in
    asks_cut c.args.before c.args.read_buffer.now c.fill_to.new.self _ _ c.args.headers.now c.args.spans.now c.args.len c.requires.open_at c.in_ok-fill_to.ensures.gains_source_bytes ended.0 ended.1

pub returns-in-Ok-clause-first_item : goal.returns-in-Ok-clause-first_item
returns-in-Ok-clause-first_item g c =
    let held : List ℕ = c.fill_to.new.self in
    let headers = c.args.headers.now in
    let spans = c.args.spans.now in
    let end : ℕ = spans.len + c.args.len in
    let gains = c.in_ok-fill_to.ensures.gains_source_bytes in
    let o : IsFramedHeadAt held headers spans (Length c.args.len) = open_gains _ held _ _ headers spans (Length c.args.len) c.requires.open_at gains in
    let enough : end ≤ length held = rw c.if-not-branch.false at c.in_ok-fill_to.ensures.enough_or_ended in
    let same = c.bytes-bytes.ensures.exact in
    let is : c.in-Ok.request ≡ request_of c.args.before o.head (slice_range held spans.len end) =
    request_at c.args.before held headers spans o.head c.in-Ok.request (slice_range held spans.len end) o.at (rw same at c.in-Ok.ensures.method_of_head) (rw same at c.in-Ok.ensures.target_of_head) (rw same at c.in-Ok.ensures.closes_as_asked) (rw same at c.in-Ok.ensures.fields_of_head) (rw same at c.in-Ok.ensures.given_body) in
    asks_after c.args.before c.args.read_buffer.now held _ _ (Ok (Requested c.in-Ok.request)) c.consume.new.self _ gains
    (asks_now c.args.before held _ (Requested c.in-Ok.request) c.consume.new.self (rw c.consume.ensures.exact (asks_plain c.args.before held headers spans c.args.len c.in-Ok.request o enough is)))

pub returns-in-Err-clause-first_item : goal.returns-in-Err-clause-first_item
returns-in-Err-clause-first_item g c =
    let held : List ℕ = c.fill_to.new.self in
    let headers = c.args.headers.now in
    let spans = c.args.spans.now in
    let end : ℕ = spans.len + c.args.len in
    let gains = c.in_ok-fill_to.ensures.gains_source_bytes in
    let o : IsFramedHeadAt held headers spans (Length c.args.len) = open_gains _ held _ _ headers spans (Length c.args.len) c.requires.open_at gains in
    let enough : end ≤ length held = rw c.if-not-branch.false at c.in_ok-fill_to.ensures.enough_or_ended in
    let request : Request = request_of c.args.before o.head (slice_range held spans.len end) in
    asks_after c.args.before c.args.read_buffer.now held _ _ (Ok NoMemory) held _ gains
    (asks_now c.args.before held _ NoMemory held (request, drop end held, asks_plain c.args.before held headers spans c.args.len request o enough refl))
