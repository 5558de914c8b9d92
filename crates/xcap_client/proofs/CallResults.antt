-- The result of a call, by the bytes that it read.
use Rattle.std.proofs.Common.{◌≡◌, ℕ, inl, inr, List, [], ◌++◌, take, drop, map, Option, Result, Ok, Err, refl, sym, ap, subst, ◌∙◌}
use Rattle.xcap_io.specs.StreamStates.{InputState}
use Rattle.xcap_io.specs.StreamTraffic.{GivesBytes}
use Rattle.xcap_io.proofs.TrafficSums.{gave_on}
use Rattle.httparse.specs.Grammar.{ResponseHead, status_code}
use Rattle.httparse.specs.Spans.{header_bytes, name_and_value}
use Rattle.httparse.specs.declared.spans.HeaderSpan.{HeaderSpan}
use Rattle.httparse.specs.declared.spans.ResponseSpans.{ResponseSpans}
use Rattle.http_wire.specs.inner.ReadBuffer.{BuffersMore}
use Rattle.xcap_client.specs.declared.response_fault.ResponseFault.{ResponseFault}
use Rattle.xcap_client.specs.declared.response_fault.ResponseFault.TheVariants as faults
use Rattle.xcap_client.specs.declared.body_length.BodyLength.{BodyLength}
use Rattle.xcap_client.specs.declared.response.Response.{Response}
use Rattle.xcap_client.specs.ReadFaults.{HoldsByCause}
use Rattle.xcap_client.specs.inner.FillErrors.{IsFieldFault}
use Rattle.xcap_client.specs.ResponseHeads.{BeginsWithHead}
use Rattle.xcap_client.specs.ResponseTags.{IsTagOf}
use Rattle.xcap_client.specs.BodyLengths.{body_length_of, body_of_length, body_result, NeedsMoreBody}
use Rattle.xcap_client.specs.inner.ReadBuffer.{IsHeadAt, SettlesValue}
use Rattle.xcap_client.specs.Responses.{body_length_of_head, response_of, refused, responds, IsDecidedResponse, DecidesNothing, lacks_body, ReadsAnswer}
use Rattle.xcap_client.specs.inner.ResponseBodies.{ReadsBody}
use Rattle.xcap_client.proofs.Fronts.{begins-append}

-- what holds by the cause of a fault also holds of another result with that fault
pub by_cause : {T U : Type 0} (fault : ResponseFault) (Lacks Lacks' : Type 0) (Said : Result T ResponseFault → Type 0) (Said' : Result U ResponseFault → Type 0) → (Lacks → Lacks') → ((e : ResponseFault) → Said (Err e) → Said' (Err e)) → HoldsByCause {T = T} (Err fault) Lacks Said → HoldsByCause {T = U} (Err fault) Lacks' Said'
by_cause faults.ReadFailed L L' S S' lacks said is = lacks is
by_cause faults.Head L L' S S' lacks said is = said faults.Head is
by_cause faults.Coding L L' S S' lacks said is = said faults.Coding is
by_cause faults.Length L L' S S' lacks said is = said faults.Length is
by_cause (faults.TooLong n) L L' S S' lacks said is = said (faults.TooLong n) is
by_cause (faults.Short have wanted) L L' S S' lacks said is = said (faults.Short have wanted) is
by_cause faults.NoMemory L L' S S' lacks said is = tt

-- a fault of the head is neither a failed read nor out of memory
of_fields : {T : Type 0} (fault : ResponseFault) (Lacks : Type 0) (Said : Result T ResponseFault → Type 0) → IsFieldFault fault → Said (Err fault) → HoldsByCause {T = T} (Err fault) Lacks Said
of_fields faults.ReadFailed L S of is = absurd of
of_fields faults.Head L S of is = is
of_fields faults.Coding L S of is = is
of_fields faults.Length L S of is = is
of_fields (faults.TooLong n) L S of is = is
of_fields (faults.Short have wanted) L S of is = is
of_fields faults.NoMemory L S of is = absurd of

-- a head that is refused by the bytes after it, or by itself
said_refused : (given : List ℕ) (left : InputState) (head : ResponseHead) (rest : List ℕ) (fault : ResponseFault) → BeginsWithHead given head rest → SettlesValue (body_result (body_length_of_head head)) rest left (Err fault) → IsDecidedResponse given left.ended (Err fault)
said_refused given left head rest fault begins (inl all) = inl (λ more. refused head (rest ++ more) fault (begins-append given more head rest begins) (all more) refl)
said_refused given left head rest fault begins (inr is) = inr (is.1.0, refused head rest fault begins is.0 refl)

-- a head whose body is there
said_responds : (given : List ℕ) (left : InputState) (head : ResponseHead) (rest : List ℕ) (tag : Option (List ℕ)) (body : List ℕ) → BeginsWithHead given head rest → IsTagOf (map name_and_value head.fields) tag → SettlesValue (body_result (body_length_of_head head)) rest left (Ok body)
    → IsDecidedResponse given left.ended (Ok (response_of head tag body))
said_responds given left head rest tag body begins tagged (inl all) = inl (λ more. responds head (rest ++ more) tag body (begins-append given more head rest begins) tagged (all more) refl)
said_responds given left head rest tag body begins tagged (inr is) = inr (is.1.0, responds head rest tag body begins tagged is.0 refl)

-- the bytes in the buffer after reads into an empty one are those given
given_is : (held : List ℕ) (left left' : InputState) → BuffersMore [] held left left' → GivesBytes left left' held
given_is held left left' gains = subst (GivesBytes left left') (sym gains.added) gains.given

-- the fields of the head are the bytes that the spans cover
pub body_length_at : (held : List ℕ) (headers : List HeaderSpan) (spans : ResponseSpans) (head : ResponseHead) → IsHeadAt held headers spans head → body_length_of spans.code (map (header_bytes held) (take spans.headers headers)) ≡ body_length_of_head head
body_length_at held headers spans head at = ap (λ (n : ℕ). body_length_of n (map (header_bytes held) (take spans.headers headers))) at.parts.code ∙ ap (body_length_of (status_code head)) at.parts.fields

-- the head has a fault
pub answers_refused : (held : List ℕ) (headers : List HeaderSpan) (spans : ResponseSpans) (head : ResponseHead) (fault : ResponseFault) (left left' : InputState) → BuffersMore [] held left left' → IsHeadAt held headers spans head → IsFieldFault fault → body_length_of_head head ≡ Err fault → ReadsAnswer left left' (Err fault)
answers_refused held headers spans head fault left left' gains at of is = record {
  read = held;
  given = given_is held left left' gains;
  answer = of_fields fault (DecidesNothing held) (IsDecidedResponse held left'.ended) of (said_refused held left' head (drop spans.len held) fault at.begins (inl (λ more. ap (λ (e : Result BodyLength ResponseFault). body_result e (drop spans.len held ++ more)) is)));
}

-- the body has a fault, or reading it stopped
pub answers_body_fault : (held : List ℕ) (headers : List HeaderSpan) (spans : ResponseSpans) (head : ResponseHead) (body_len : BodyLength) (fault : ResponseFault) (left mid left' : InputState) → BuffersMore [] held left mid → IsHeadAt held headers spans head → body_length_of_head head ≡ Ok body_len → ReadsBody body_len (drop spans.len held) mid left' (Err fault) → ReadsAnswer left left' (Err fault)
answers_body_fault held headers spans head body_len fault left mid left' gains at is gives =
    let rest : List ℕ = drop spans.len held ++ gives.read in
    let begins : BeginsWithHead (held ++ gives.read) head rest = begins-append held gives.read head (drop spans.len held) at.begins in
    record {
      read = held ++ gives.read;
      given = gave_on left mid left' held gives.read (given_is held left mid gains) gives.given;
      answer = by_cause fault (NeedsMoreBody body_len rest) (DecidesNothing (held ++ gives.read)) (SettlesValue (body_of_length body_len) rest left') (IsDecidedResponse (held ++ gives.read) left'.ended) (lacks_body head rest body_len begins is) (λ e settled. said_refused (held ++ gives.read) left' head rest e begins (subst (λ (x : Result BodyLength ResponseFault). SettlesValue (body_result x) rest left' (Err e)) (sym is) settled)) gives.body;
    }

-- the body is there
pub answers_response : (held : List ℕ) (headers : List HeaderSpan) (spans : ResponseSpans) (head : ResponseHead) (body_len : BodyLength) (tag : Option (List ℕ)) (body : List ℕ) (left mid left' : InputState) → BuffersMore [] held left mid → IsHeadAt held headers spans head → body_length_of_head head ≡ Ok body_len
    → IsTagOf (map (header_bytes held) (take spans.headers headers)) tag → ReadsBody body_len (drop spans.len held) mid left' (Ok body) → ReadsAnswer left left' (Ok (record { status = spans.code; tag = tag; body = body }))
answers_response held headers spans head body_len tag body left mid left' gains at is tagged gives =
    let rest : List ℕ = drop spans.len held ++ gives.read in
    let given : List ℕ = held ++ gives.read in
    let begins : BeginsWithHead given head rest = begins-append held gives.read head (drop spans.len held) at.begins in
    let same : response_of head tag body ≡ record { status = spans.code; tag = tag; body = body } = ap (λ (n : ℕ). record { status = n; tag = tag; body = body }) (sym at.parts.code) in
    record {
      read = given;
      given = gave_on left mid left' held gives.read (given_is held left mid gains) gives.given;
      answer = subst (λ (r : Response). IsDecidedResponse given left'.ended (Ok r)) same (said_responds given left' head rest tag body begins (subst (λ (f : List (List ℕ × List ℕ)). IsTagOf f tag) at.parts.fields tagged) (subst (λ (x : Result BodyLength ResponseFault). SettlesValue (body_result x) rest left' (Ok body)) (sym is) gives.body));
    }
