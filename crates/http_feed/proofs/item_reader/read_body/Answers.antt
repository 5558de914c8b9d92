use Rattle.std.proofs.Common.{◌≡◌, ◌+◌, ◌<◌, ◌≤◌, List, ℕ, length, drop, slice_range, refl, arith}
use Rattle.http_wire.specs.declared.framing.Framing.TheVariants.{Length}
use Rattle.http_wire.specs.declared.request.Request.{Request}
use Rattle.http_wire.specs.ConnectionItems.{request_of}
use Rattle.http_wire.proofs.ItemLemmas.{request_at}
use Rattle.http_feed.proofs.ReadPlaces.{body_asks, body_waits, head_is_found}
use Rattle.http_feed.proofs.item_reader.read_body.Goals.{then-len-head-via-then-len-head, then-len-head-via-else-len-head+then-len-head-2}
use Rattle.http_feed.proofs.item_reader.read_body.Goals as goal

pub returns-then-len-head : goal.returns-then-len-head
returns-then-len-head c =
    let size = c.len.ensures.exact in
    let fewer : length c.args.held.now.bytes < c.args.head + c.args.len = elim c.then-len-head.branch [
      | then-len-head-via-then-len-head w ↦ omega (arith, w.if-len-head.true, size)
      | then-len-head-via-else-len-head+then-len-head-2 w ↦ omega (arith, w.if-len-head-2.true, w.if-len-head.false, size, w.len-else-len-head.ensures.exact)
    ] in
    record { answers = λ given decoding b. body_waits c.args.head c.args.len c.args.held.now.bytes given b fewer }

pub returns-in_default : goal.returns-in_default
returns-in_default c =
    let found = rw c.bytes-bytes.ensures.exact at c.scan_head.ensures.head_of_bytes in
    record { answers = λ given decoding b. head_is_found c.args.held.now.bytes b.headers b.spans (Length c.args.len) b.opens c.scan_head.new.headers c.scan_head.result found c.in_default.not-Head }

pub returns-in-Ok : goal.returns-in-Ok
returns-in-Ok c =
    let same = c.bytes-bytes.ensures.exact in
    let bytes : List ℕ = c.args.held.now.bytes in
    let end : ℕ = c.args.head + c.args.len in
    let found = rw same at c.in-Head.ensures.head_of_bytes in
    let enough : end ≤ length bytes = omega (arith, c.if-len-head.false, c.if-len-head-2.false, c.len.ensures.exact, c.len-else-len-head.ensures.exact) in
    let is : c.in-Ok.request ≡ request_of c.args.before found.0 (slice_range bytes c.args.head end) =
    request_at c.args.before bytes c.scan_head.new.headers c.in-Head.spans found.0 c.in-Ok.request (slice_range bytes c.args.head end) found.1
    (rw same at c.in-Ok.ensures.method_of_head) (rw same at c.in-Ok.ensures.target_of_head) (rw same at c.in-Ok.ensures.closes_as_asked) (rw same at c.in-Ok.ensures.fields_of_head) (rw same at c.in-Ok.ensures.given_body) in
    record { answers = λ given decoding b. rw c.consume.ensures.exact (body_asks c.args.head c.args.len bytes given b c.args.before c.scan_head.new.headers c.in-Head.spans c.in-Ok.request enough found is) }

pub returns-in-Err : goal.returns-in-Err
returns-in-Err c =
    let same = c.bytes-bytes.ensures.exact in
    let bytes : List ℕ = c.args.held.now.bytes in
    let end : ℕ = c.args.head + c.args.len in
    let found = rw same at c.in-Head.ensures.head_of_bytes in
    let enough : end ≤ length bytes = omega (arith, c.if-len-head.false, c.if-len-head-2.false, c.len.ensures.exact, c.len-else-len-head.ensures.exact) in
    let request : Request = request_of c.args.before found.0 (slice_range bytes c.args.head end) in
    record { answers = λ given decoding b. (request, drop end bytes, body_asks c.args.head c.args.len bytes given b c.args.before c.scan_head.new.headers c.in-Head.spans request enough found refl) }
