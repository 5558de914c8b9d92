use Rattle.std.proofs.Common.{ℕ, List, sym, ap, subst, ◌∙◌}
use Rattle.std.specs.Prelude.{Err}
use Rattle.std.proofs.lemmas.Result.{err_from_is_err_and}
use Rattle.xcap_client.specs.Responses.{ReadsAnswer}
use Rattle.xcap_client.proofs.CallResults.{body_length_at, answers_refused, answers_body_fault, answers_response}
use Rattle.xcap_client.proofs.response.read_response.Goals as goal

pub returns-in_err-body_len-clause-answers_read : goal.returns-in_err-body_len-clause-answers_read
returns-in_err-body_len-clause-answers_read g c =
    let p = err_from_is_err_and c.from_residual-in_err-body_len.result c.from_residual-in_err-body_len.ensures.1 in
    let held : List ℕ = c.read_head.new.read_buffer in
    let gains = rw c.new-read_buffer.ensures.holds_no_bytes at c.in_ok-spans.ensures.gains_source_bytes in
    let found = rw c.in-Some.is at c.in_ok-spans.ensures.head_or_none in
    let value = rw c.bytes.ensures.exact at c.in_err-body_len.ensures.fields_length in
    subst (ReadsAnswer (g.S.Line.state c.args.source.now).inward (g.S.Line.state c.read_head.new.source).inward) (sym (p.1 ∙ ap Err p.2))
    (answers_refused held c.read_head.new.headers c.in-Some.spans found.0 c.in_err-body_len.field-0.0 _ _ gains found.1 c.in_err-body_len.ensures.err_of_fields (sym (body_length_at held c.read_head.new.headers c.in-Some.spans found.0 found.1) ∙ sym value))

pub returns-in_err-body-clause-answers_read : goal.returns-in_err-body-clause-answers_read
returns-in_err-body-clause-answers_read g c =
    let p = err_from_is_err_and c.from_residual-in_err-body.result c.from_residual-in_err-body.ensures.1 in
    let held : List ℕ = c.read_head.new.read_buffer in
    let gains = rw c.new-read_buffer.ensures.holds_no_bytes at c.in_ok-spans.ensures.gains_source_bytes in
    let found = rw c.in-Some.is at c.in_ok-spans.ensures.head_or_none in
    let value = rw c.bytes.ensures.exact at c.in_ok-body_len.ensures.fields_length in
    let gives = rw c.consume.ensures.exact at c.in_err-body.ensures.gives_body in
    subst (ReadsAnswer (g.S.Line.state c.args.source.now).inward (g.S.Line.state c.read_body.new.source).inward) (sym (p.1 ∙ ap Err p.2))
    (answers_body_fault held c.read_head.new.headers c.in-Some.spans found.0 c.in_ok-body_len.body_len c.in_err-body.field-0.0 _ _ _ gains found.1 (sym (body_length_at held c.read_head.new.headers c.in-Some.spans found.0 found.1) ∙ sym value) gives)

pub returns-clause-answers_read : goal.returns-clause-answers_read
returns-clause-answers_read g c =
    let held : List ℕ = c.read_head.new.read_buffer in
    let gains = rw c.new-read_buffer.ensures.holds_no_bytes at c.in_ok-spans.ensures.gains_source_bytes in
    let found = rw c.in-Some.is at c.in_ok-spans.ensures.head_or_none in
    let value = rw c.bytes.ensures.exact at c.in_ok-body_len.ensures.fields_length in
    let tagged = rw c.bytes-2.ensures.exact at c.in_ok-tag.ensures.tag_or_none in
    let gives = rw c.consume.ensures.exact at c.in_ok-body.ensures.gives_body in
    answers_response held c.read_head.new.headers c.in-Some.spans found.0 c.in_ok-body_len.body_len c.in_ok-tag.tag c.in_ok-body.body _ _ _ gains found.1 (sym (body_length_at held c.read_head.new.headers c.in-Some.spans found.0 found.1) ∙ sym value) tagged gives
