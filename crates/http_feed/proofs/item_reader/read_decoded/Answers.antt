use Rattle.std.proofs.Common.{◌≡◌, ◌+◌, List, ℕ, drop, refl}
use Rattle.http_wire.specs.declared.framing.Framing.TheVariants.{Chunked}
use Rattle.http_wire.specs.declared.request.Request.{Request}
use Rattle.http_wire.specs.ConnectionItems.{request_of}
use Rattle.http_wire.proofs.ItemLemmas.{request_at}
use Rattle.http_feed.proofs.ReadPlaces.{chunks_ask, head_is_found, whole_head}
use Rattle.http_feed.proofs.item_reader.read_decoded.Goals as goal

pub returns-in_default : goal.returns-in_default
returns-in_default c =
    let found = rw c.bytes-bytes.ensures.exact at c.scan_head.ensures.head_of_bytes in
    record {
      answers = λ given decoding w. head_is_found c.args.held.now.bytes w.headers w.spans Chunked
          (whole_head c.args.head c.args.used c.args.held.now.bytes c.args.body.now given w) c.scan_head.new.headers c.scan_head.result found c.in_default.not-Head;
    }

pub returns-in-Ok : goal.returns-in-Ok
returns-in-Ok c =
    let same = c.bytes-bytes.ensures.exact in
    let bytes : List ℕ = c.args.held.now.bytes in
    let found = rw same at c.in-Head.ensures.head_of_bytes in
    let is : c.in-Ok.request ≡ request_of c.args.before found.0 c.args.body.now =
    request_at c.args.before bytes c.scan_head.new.headers c.in-Head.spans found.0 c.in-Ok.request c.args.body.now found.1
    (rw same at c.in-Ok.ensures.method_of_head) (rw same at c.in-Ok.ensures.target_of_head) (rw same at c.in-Ok.ensures.closes_as_asked) (rw same at c.in-Ok.ensures.fields_of_head) c.in-Ok.ensures.given_body in
    record { answers = λ given decoding w. rw c.consume.ensures.exact (chunks_ask c.args.head c.args.used bytes c.args.body.now given w c.args.before c.scan_head.new.headers c.in-Head.spans c.in-Ok.request found is) }

pub returns-in-Err : goal.returns-in-Err
returns-in-Err c =
    let same = c.bytes-bytes.ensures.exact in
    let bytes : List ℕ = c.args.held.now.bytes in
    let found = rw same at c.in-Head.ensures.head_of_bytes in
    let request : Request = request_of c.args.before found.0 c.args.body.now in
    record {
      answers = λ given decoding w. (request, drop (c.args.head + c.args.used) bytes, chunks_ask c.args.head c.args.used bytes c.args.body.now given w c.args.before c.scan_head.new.headers c.in-Head.spans request found refl);
    }
