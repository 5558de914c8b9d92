-- Items, by what was found at the front of the bytes given.
use Rattle.std.proofs.Common.{◌≡◌, ℕ, ◌+◌, ◌<◌, ◌≤◌, inl, inr, Bool, ◌==◌, ◌||◌, List, [], ◌++◌, length, take, drop, map, slice_range, Result, Ok, Err, MatchResult, refl, sym, ap, subst, ◌∙◌, arith, length-drop, append_assoc, take-append-drop}
use Rattle.std.proofs.lemmas.List.{append-nil, drop-drop, length-take-le}
use Rattle.xcap_io.proofs.Lines.{counts_on, reads_on}
use Rattle.xcap_io.proofs.TrafficSums.{gave_none, gave_on}
use Rattle.xcap_io.specs.StreamStates.{InputState, StreamState, DiffersByReads, OnlyReads}
use Rattle.xcap_io.specs.StreamTraffic.{GivesBytes, IsEnded}
use Rattle.httparse.specs.Grammar.{RequestHead}
use Rattle.httparse.specs.Spans.{header_bytes, span_bytes, name_and_value}
use Rattle.httparse.specs.declared.spans.HeaderSpan.{HeaderSpan}
use Rattle.httparse.specs.declared.spans.RequestSpans.{RequestSpans}
use Rattle.http_wire.specs.declared.framing.Framing.{Framing}
use Rattle.http_wire.specs.declared.framing.Framing.TheVariants.{Bad as BadFields, Coded as OtherCoding, TooLong as LongBody, Length, Chunked}
use Rattle.http_wire.specs.declared.body_decoder.DecodeResult.TheVariants.{Whole, TooLong as LongChunks, Bad as BadChunks, Cut}
use Rattle.http_wire.specs.declared.request.Field.{Field}
use Rattle.http_wire.specs.declared.request.Request.{Request}
use Rattle.http_wire.specs.declared.request.Asked.{Asked}
use Rattle.http_wire.specs.declared.request.Asked.TheVariants.{Request as Requested, Bad, TooLong, NoMemory}
use Rattle.http_wire.specs.Fields.{asks_to_close}
use Rattle.http_wire.specs.Framing.{framing}
use Rattle.http_wire.specs.ChunkedBodies.{print_chunk_line, print_chunks, HasNoChunkedBody, MayBecomeChunkedBody, ExceedsBodyLimit}
use Rattle.http_wire.specs.ConnectionItems.{bad, too_long, coded, field_of, request_of, BeginsWithFramedHead, HoldsAfterHead, HasFraming, AsksFor, with_length, in_chunks, IsBadRequest, bad_fields, body_cut, no_body, HasTooLongBody, long_body, long_chunks, HasNoCompleteItem, lacks_body, lacks_chunks}
use Rattle.http_wire.specs.NextRequests.{IsNextItem, IsNextRequestResult, ReadsNextRequest}
use Rattle.http_wire.specs.inner.ReadBuffer.{BuffersMore, IsHeadAt, IsFramedHeadAt, BeginsWithBody, HasNoBodyYet, DecodesBody}
use Rattle.http_wire.proofs.Buffers.{buffered}
use Rattle.http_wire.proofs.Fronts.{begins-append, head_at-append}

-- Reads, one after the other.

pub gains_none : (held : List ℕ) (left : InputState) → BuffersMore held held left left
gains_none held left = record { read = []; added = sym (append-nil held); given = gave_none left }

pub gains_on : (a b c : List ℕ) (l m n : InputState) → BuffersMore a b l m → BuffersMore b c m n → BuffersMore a c l n
gains_on a b c l m n first next = record {
  read = first.read ++ next.read;
  added = next.added ∙ ap (λ (s : List ℕ). s ++ next.read) first.added ∙ append_assoc a first.read next.read;
  given = gave_on l m n first.read next.read first.given next.given;
}

-- a read after reads that did not fail
pub only_reads_on : {T E : Type 0} (old mid new : StreamState) (result : Result T E) → DiffersByReads old mid → mid.read_faults ≡ old.read_faults → OnlyReads mid new result → OnlyReads old new result
only_reads_on old mid new result first stayed next = record {
  reads = reads_on old mid new first next.reads;
  counts = counts_on old.read_faults mid.read_faults new.read_faults result stayed next.counts;
}

-- a failed read after reads that did not fail, whatever other results would mean
pub failed_on : {T U E : Type 0} (old mid new : StreamState) (e : E) → DiffersByReads old mid → mid.read_faults ≡ old.read_faults → OnlyReads {T = T} mid new (Err e) → OnlyReads {T = U} old new (Err e)
failed_on {T} old mid new e first stayed next = record {
  reads = reads_on old mid new first next.reads;
  counts = counts_on {T = T} old.read_faults mid.read_faults new.read_faults (Err e) stayed next.counts;
}

-- a result by the buffered bytes
pub asks_now : {E : Type 0} (before : ℕ) (held : List ℕ) (left : InputState) (asked : Asked) (held' : List ℕ) → IsNextRequestResult before held left asked held' → ReadsNextRequest {E = E} before (buffered held left) (Ok asked) (buffered held' left)
asks_now before held left asked held' is = record {
  read = [];
  given = gave_none left;
  answer = subst (λ (l : List ℕ). IsNextRequestResult before l left asked held') (sym (append-nil held)) is;
}

-- a result by bytes that were read before and those read then
pub asks_after : {E : Type 0} (before : ℕ) (held mid : List ℕ) (left left1 : InputState) (result : Result Asked E) (held' : List ℕ) (left' : InputState) → BuffersMore held mid left left1 → ReadsNextRequest before (buffered mid left1) result (buffered held' left') → ReadsNextRequest before (buffered held left) result (buffered held' left')
asks_after {E} before held mid left left1 result held' left' gains then = record {
  read = gains.read ++ then.read;
  given = gave_on left left1 left' gains.read then.read gains.given then.given;
  answer = moved result (ap (λ (l : List ℕ). l ++ then.read) gains.added ∙ append_assoc held gains.read then.read) then.answer;
}
  where
    moved : (r : Result Asked E) → mid ++ then.read ≡ held ++ (gains.read ++ then.read)
        → MatchResult r (λ asked. IsNextRequestResult before (mid ++ then.read) left' asked held') (λ _. HasNoCompleteItem (mid ++ then.read))
        → MatchResult r (λ asked. IsNextRequestResult before (held ++ (gains.read ++ then.read)) left' asked held') (λ _. HasNoCompleteItem (held ++ (gains.read ++ then.read)))
    moved (Ok asked) same is = subst (λ (l : List ℕ). IsNextRequestResult before l left' asked held') same is
    moved (Err e) same is = subst HasNoCompleteItem same is

-- a read failed, and no item is complete in the bytes given
pub asks_failed : {E : Type 0} (before : ℕ) (held mid : List ℕ) (left left' : InputState) (e : E) → BuffersMore held mid left left' → HasNoCompleteItem mid → ReadsNextRequest before (buffered held left) (Err e) (buffered mid left')
asks_failed before held mid left left' e gains is = record {
  read = gains.read;
  given = gains.given;
  answer = subst HasNoCompleteItem gains.added is;
}

-- A head at the front, and what its fields say.

pub opens-append : (bytes more : List ℕ) (head : RequestHead) (what : Framing) (rest : List ℕ) → BeginsWithFramedHead bytes head what rest → BeginsWithFramedHead (bytes ++ more) head what (rest ++ more)
opens-append bytes more head what rest opens = record { begins = begins-append bytes more head rest opens.begins; framed = opens.framed }

-- a head found at the front is there after more reads
pub open_at-append : (held more : List ℕ) (headers : List HeaderSpan) (spans : RequestSpans) (what : Framing) → IsFramedHeadAt held headers spans what → IsFramedHeadAt (held ++ more) headers spans what
open_at-append held more headers spans what o = record { head = o.head; at = head_at-append held more headers spans o.head o.at; framed = o.framed }

pub open_gains : (held held' : List ℕ) (left left' : InputState) (headers : List HeaderSpan) (spans : RequestSpans) (what : Framing) → IsFramedHeadAt held headers spans what → BuffersMore held held' left left' → IsFramedHeadAt held' headers spans what
open_gains held held' left left' headers spans what o gains = subst (λ (l : List ℕ). IsFramedHeadAt l headers spans what) (sym gains.added) (open_at-append held gains.read headers spans what o)

pub opens_at : (held : List ℕ) (headers : List HeaderSpan) (spans : RequestSpans) (what : Framing) (o : IsFramedHeadAt held headers spans what) → BeginsWithFramedHead held o.head what (drop spans.len held)
opens_at held headers spans what o = record { begins = o.at.begins; framed = o.framed }

-- the spans and the fields of the head say the same
pub framed_at : (held : List ℕ) (headers : List HeaderSpan) (spans : RequestSpans) (head : RequestHead) → IsHeadAt held headers spans head → framing spans.version (map (header_bytes held) (take spans.headers headers)) ≡ framing head.minor (map name_and_value head.fields)
framed_at held headers spans head at = ap (λ (v : ℕ). framing v (map (header_bytes held) (take spans.headers headers))) at.parts.version ∙ ap (framing head.minor) at.parts.fields

-- the head alone decides, whatever follows
pub framed_on : (held more : List ℕ) (headers : List HeaderSpan) (spans : RequestSpans) (what : Framing) → IsFramedHeadAt held headers spans what → HasFraming what (held ++ more)
framed_on held more headers spans what o = (o.head, drop spans.len held ++ more, opens-append held more o.head what (drop spans.len held) (opens_at held headers spans what o))

-- such bytes come after the head
pub follows_at : (held more : List ℕ) (headers : List HeaderSpan) (spans : RequestSpans) (what : Framing) (P : List ℕ → Type 0) → IsFramedHeadAt held headers spans what → P (drop spans.len held ++ more) → HoldsAfterHead what (held ++ more) P
follows_at held more headers spans what P o behind = record {
  head = o.head;
  rest = drop spans.len held ++ more;
  opens = opens-append held more o.head what (drop spans.len held) (opens_at held headers spans what o);
  behind = behind;
}

-- A request, from the parts that the spans cover.

abbrev request_by : List ℕ → List ℕ → Bool → List Field → List ℕ → Request
request_by m t c f d = record { method = m; target = t; closes = c; fields = f; body = d }

same_request : (a b : Request) → a.method ≡ b.method → a.target ≡ b.target → a.closes ≡ b.closes → a.fields ≡ b.fields → a.body ≡ b.body → a ≡ b
same_request a b method target closes fields body =
    ap (λ (x : List ℕ). request_by x a.target a.closes a.fields a.body) method
    ∙ ap (λ (x : List ℕ). request_by b.method x a.closes a.fields a.body) target
    ∙ ap (λ (x : Bool). request_by b.method b.target x a.fields a.body) closes
    ∙ ap (λ (x : List Field). request_by b.method b.target b.closes x a.body) fields
    ∙ ap (λ (x : List ℕ). request_by b.method b.target b.closes b.fields x) body

pub request_at : (before : ℕ) (held : List ℕ) (headers : List HeaderSpan) (spans : RequestSpans) (head : RequestHead) (request : Request) (body : List ℕ) → IsHeadAt held headers spans head
    → request.method ≡ span_bytes held spans.method → request.target ≡ span_bytes held spans.path
    → request.closes ≡ ((before == 999) || ((spans.version == 0) || asks_to_close (map (header_bytes held) (take spans.headers headers))))
    → request.fields ≡ map field_of (map (header_bytes held) (take spans.headers headers)) → request.body ≡ body
    → request ≡ request_of before head body
request_at before held headers spans head request body at method target closes fields same =
    same_request request (request_of before head body)
    (method ∙ at.parts.method)
    (target ∙ at.parts.path)
    (closes ∙ ap (λ (v : ℕ). (before == 999) || ((v == 0) || asks_to_close (map (header_bytes held) (take spans.headers headers)))) at.parts.version ∙ ap (λ (l : List (List ℕ × List ℕ)). (before == 999) || ((head.minor == 0) || asks_to_close l)) at.parts.fields)
    (fields ∙ ap (map field_of) at.parts.fields)
    same

-- a body of the length that the head says
pub body_at : (held : List ℕ) (headers : List HeaderSpan) (spans : RequestSpans) (len : ℕ) (o : IsFramedHeadAt held headers spans (Length len)) → spans.len + len ≤ length held
    → BeginsWithFramedHead held o.head (Length (length (slice_range held spans.len (spans.len + len)))) (slice_range held spans.len (spans.len + len) ++ drop (spans.len + len) held)
body_at held headers spans len o enough =
    let behind : List ℕ = drop spans.len held in
    let body : List ℕ = slice_range held spans.len (spans.len + len) in
    let front : body ≡ take len behind = ap (λ (n : ℕ). take n behind) (omega arith) in
    let size : length body ≡ len = ap length front ∙ length-take-le len behind (omega (arith, length-drop spans.len held, enough)) in
    let split : behind ≡ body ++ drop (spans.len + len) held = sym (take-append-drop len behind) ∙ ap (λ (l : List ℕ). l ++ drop len behind) (sym front) ∙ ap (λ (l : List ℕ). body ++ l) (drop-drop len spans.len held) in
    subst (λ (n : ℕ). BeginsWithFramedHead held o.head (Length n) (body ++ drop (spans.len + len) held)) (sym size) (subst (BeginsWithFramedHead held o.head (Length len)) split (opens_at held headers spans (Length len) o))

pub asks_plain : (before : ℕ) (held : List ℕ) (headers : List HeaderSpan) (spans : RequestSpans) (len : ℕ) (request : Request) (o : IsFramedHeadAt held headers spans (Length len)) → spans.len + len ≤ length held
    → request ≡ request_of before o.head (slice_range held spans.len (spans.len + len)) → AsksFor before held request (drop (spans.len + len) held)
asks_plain before held headers spans len request o enough is =
    with_length o.head (slice_range held spans.len (spans.len + len)) (body_at held headers spans len o enough) is

pub asks_in_chunks : (before : ℕ) (held read : List ℕ) (headers : List HeaderSpan) (spans : RequestSpans) (request : Request) (body rest : List ℕ) (o : IsFramedHeadAt held headers spans Chunked) → BeginsWithBody (drop spans.len held ++ read) body rest
    → request ≡ request_of before o.head body → AsksFor before (held ++ read) request rest
asks_in_chunks before held read headers spans request body rest o has is =
    in_chunks o.head (drop spans.len held ++ read) has.whole
    (opens-append held read o.head Chunked (drop spans.len held) (opens_at held headers spans Chunked o))
    has.reads
    (omega (arith, has.short, ap length has.gives))
    (is ∙ ap (request_of before o.head) (sym has.gives))

-- with fewer bytes than the body has, the request isn't complete
pub lacks : (held : List ℕ) (headers : List HeaderSpan) (spans : RequestSpans) (len : ℕ) → IsFramedHeadAt held headers spans (Length len) → length held < spans.len + len → HoldsAfterHead (Length len) held (λ rest. length rest < len)
lacks held headers spans len o fewer = record {
  head = o.head;
  rest = drop spans.len held;
  opens = opens_at held headers spans (Length len) o;
  behind = omega (arith, length-drop spans.len held, o.at.within.section.len_fits, fewer);
}

-- Results, by what was found.

-- the bytes that were given, and then more
given_and_more : (held read more : List ℕ) → held ++ (read ++ more) ≡ (held ++ read) ++ more
given_and_more held read more = sym (append_assoc held read more)

-- the fields are not acceptable, or name another coding, or a length beyond the limit
pub next_bad : (before : ℕ) (held : List ℕ) (left : InputState) (held' : List ℕ) (headers : List HeaderSpan) (spans : RequestSpans) → IsFramedHeadAt held headers spans BadFields → IsNextItem before held left bad held'
next_bad before held left held' headers spans o = inl (λ more. bad_fields (framed_on held more headers spans BadFields o))

pub next_long : (before : ℕ) (held : List ℕ) (left : InputState) (held' : List ℕ) (headers : List HeaderSpan) (spans : RequestSpans) → IsFramedHeadAt held headers spans LongBody → IsNextItem before held left too_long held'
next_long before held left held' headers spans o = inl (λ more. long_body (framed_on held more headers spans LongBody o))

pub next_coded : (before : ℕ) (held : List ℕ) (left : InputState) (held' : List ℕ) (headers : List HeaderSpan) (spans : RequestSpans) → IsFramedHeadAt held headers spans OtherCoding → IsNextItem before held left coded held'
next_coded before held left held' headers spans o = inl (λ more. framed_on held more headers spans OtherCoding o)

-- the body is cut short by the end
pub asks_cut : {E : Type 0} (before : ℕ) (held mid : List ℕ) (left left' : InputState) (headers : List HeaderSpan) (spans : RequestSpans) (len : ℕ) → IsFramedHeadAt held headers spans (Length len) → BuffersMore held mid left left' → length mid < spans.len + len → IsEnded left' → ReadsNextRequest {E = E} before (buffered held left) (Ok Bad) (buffered mid left')
asks_cut before held mid left left' headers spans len o gains fewer ended =
    asks_after before held mid left left' (Ok Bad) mid left' gains
    (asks_now before mid left' Bad mid (inr (body_cut len (lacks mid headers spans len (open_gains held mid left left' headers spans (Length len) o gains) fewer), ended)))

pub asks_unfinished : {E : Type 0} (before : ℕ) (held mid : List ℕ) (left left' : InputState) (headers : List HeaderSpan) (spans : RequestSpans) (len : ℕ) (e : E) → IsFramedHeadAt held headers spans (Length len) → BuffersMore held mid left left' → length mid < spans.len + len → ReadsNextRequest before (buffered held left) (Err e) (buffered mid left')
asks_unfinished before held mid left left' headers spans len e o gains fewer =
    asks_failed before held mid left left' e gains (lacks_body len (lacks mid headers spans len (open_gains held mid left left' headers spans (Length len) o gains) fewer))

-- A chunked body.

-- a result by the bytes that were buffered and those that were read
asks_read : {E : Type 0} (before : ℕ) (held read : List ℕ) (left left' : InputState) (asked : Asked) (held' : List ℕ) → GivesBytes left left' read → IsNextRequestResult before (held ++ read) left' asked held' → ReadsNextRequest {E = E} before (buffered held left) (Ok asked) (buffered held' left')
asks_read before held read left left' asked held' given is = record { read = read; given = given; answer = is }

pub chunks_unfinished : {E : Type 0} (before : ℕ) (held : List ℕ) (left : InputState) (body held' : List ℕ) (left' : InputState) (headers : List HeaderSpan) (spans : RequestSpans) (e : E) → IsFramedHeadAt held headers spans Chunked → DecodesBody spans.len (buffered held left) (Err e) body (buffered held' left') → ReadsNextRequest before (buffered held left) (Err e) (buffered held' left')
chunks_unfinished before held left body held' left' headers spans e o d = record {
  read = d.read;
  given = d.given;
  answer = lacks_chunks (follows_at held d.read headers spans Chunked (λ rest. MayBecomeChunkedBody rest × HasNoChunkedBody rest × ¬ (ExceedsBodyLimit rest)) o (d.outcome.0, d.outcome.1.0, d.outcome.1.1));
}

pub chunks_bad : {E : Type 0} (before : ℕ) (held : List ℕ) (left : InputState) (body held' : List ℕ) (left' : InputState) (headers : List HeaderSpan) (spans : RequestSpans) → IsFramedHeadAt held headers spans Chunked → DecodesBody {E = E} spans.len (buffered held left) (Ok BadChunks) body (buffered held' left') → ReadsNextRequest {E = E} before (buffered held left) (Ok Bad) (buffered held' left')
chunks_bad before held left body held' left' headers spans o d =
    asks_read before held d.read left left' Bad held' d.given
    (inl (λ more. subst IsBadRequest (given_and_more held d.read more)
    (no_body (follows_at held (d.read ++ more) headers spans Chunked HasNoBodyYet o (subst HasNoBodyYet (append_assoc (drop spans.len held) d.read more) (d.outcome more))))))

pub chunks_cut : {E : Type 0} (before : ℕ) (held : List ℕ) (left : InputState) (body held' : List ℕ) (left' : InputState) (headers : List HeaderSpan) (spans : RequestSpans) → IsFramedHeadAt held headers spans Chunked → DecodesBody {E = E} spans.len (buffered held left) (Ok Cut) body (buffered held' left') → ReadsNextRequest {E = E} before (buffered held left) (Ok Bad) (buffered held' left')
chunks_cut before held left body held' left' headers spans o d =
    asks_read before held d.read left left' Bad held' d.given (inr (no_body (follows_at held d.read headers spans Chunked HasNoBodyYet o d.outcome.0), d.outcome.1))

-- more bytes after those that pass the limit
pub passes-append : (bytes more : List ℕ) → ExceedsBodyLimit bytes → ExceedsBodyLimit (bytes ++ more)
passes-append bytes more p = record {
  chunks = p.chunks;
  line = p.line;
  rest = p.rest ++ more;
  are_chunks = p.are_chunks;
  is_line = p.is_line;
  reads = ap (λ (l : List ℕ). l ++ more) p.reads ∙ append_assoc (print_chunks p.chunks) (print_chunk_line p.line ++ p.rest) more ∙ ap (λ (l : List ℕ). print_chunks p.chunks ++ l) (append_assoc (print_chunk_line p.line) p.rest more);
  over = p.over;
}

pub chunks_long : {E : Type 0} (before : ℕ) (held : List ℕ) (left : InputState) (body held' : List ℕ) (left' : InputState) (headers : List HeaderSpan) (spans : RequestSpans) → IsFramedHeadAt held headers spans Chunked → DecodesBody {E = E} spans.len (buffered held left) (Ok LongChunks) body (buffered held' left') → ReadsNextRequest {E = E} before (buffered held left) (Ok TooLong) (buffered held' left')
chunks_long before held left body held' left' headers spans o d =
    asks_read before held d.read left left' TooLong held' d.given
    (inl (λ more. subst HasTooLongBody (given_and_more held d.read more)
    (long_chunks (follows_at held (d.read ++ more) headers spans Chunked ExceedsBodyLimit o (subst ExceedsBodyLimit (append_assoc (drop spans.len held) d.read more) (passes-append (drop spans.len held ++ d.read) more d.outcome))))))

-- the request, whose parts the spans cover in the buffered bytes
pub chunks_whole : {E : Type 0} (before : ℕ) (held : List ℕ) (left : InputState) (body held' : List ℕ) (left' : InputState) (headers : List HeaderSpan) (spans : RequestSpans) (end : ℕ) (request : Request) (o : IsFramedHeadAt held headers spans Chunked) → DecodesBody {E = E} spans.len (buffered held left) (Ok (Whole end)) body (buffered held' left') → request ≡ request_of before o.head body → ReadsNextRequest {E = E} before (buffered held left) (Ok (Requested request)) (buffered (drop end held') left')
chunks_whole before held left body held' left' headers spans end request o d is =
    asks_read before held d.read left left' (Requested request) (drop end held') d.given (asks_in_chunks before held d.read headers spans request body (drop end held') o d.outcome.2 is)

pub chunks_no_memory : {E : Type 0} (before : ℕ) (held : List ℕ) (left : InputState) (body held' : List ℕ) (left' : InputState) (headers : List HeaderSpan) (spans : RequestSpans) (end : ℕ) (o : IsFramedHeadAt held headers spans Chunked) → DecodesBody {E = E} spans.len (buffered held left) (Ok (Whole end)) body (buffered held' left') → ReadsNextRequest {E = E} before (buffered held left) (Ok NoMemory) (buffered held' left')
chunks_no_memory before held left body held' left' headers spans end o d =
    let request : Request = request_of before o.head body in
    asks_read before held d.read left left' NoMemory held' d.given (request, drop end held', asks_in_chunks before held d.read headers spans request body (drop end held') o d.outcome.2 refl)

-- what the spans say is true of the head that was found
pub open_by : (held bytes : List ℕ) (left : InputState) (headers : List HeaderSpan) (spans : RequestSpans) (what read : Framing) → (head : RequestHead) × IsHeadAt held headers spans head → bytes ≡ held → read ≡ framing spans.version (map (header_bytes bytes) (take spans.headers headers)) → read ≡ what → IsFramedHeadAt held headers spans what
open_by held bytes left headers spans what read found same value is = record {
  head = found.0;
  at = found.1;
  framed = sym (framed_at held headers spans found.0 found.1) ∙ ap (λ (l : List ℕ). framing spans.version (map (header_bytes l) (take spans.headers headers))) (sym same) ∙ sym value ∙ is;
}
