use Rattle.std.proofs.Common.{Err, ap, sym, subst, ◌∙◌}
use Rattle.std.proofs.lemmas.Result.{err_from_is_err_and}
use Rattle.xcap_client.specs.declared.body_length.BodyLength.TheVariants.{Exactly}
use Rattle.xcap_client.specs.inner.ResponseBodies.{ReadsBody}
use Rattle.xcap_client.proofs.Bodies.{enough, stopped, too_few}
use Rattle.xcap_client.proofs.response.read_exactly.Goals as goal

pub returns-in_err-fill_to-clause-gives_body : goal.returns-in_err-fill_to-clause-gives_body
returns-in_err-fill_to-clause-gives_body g c =
    let p = err_from_is_err_and c.from_residual.result c.from_residual.ensures.1 in
    subst (ReadsBody (Exactly c.args.len) c.args.read_buffer (g.S.Line.state c.args.source.now).inward (g.S.Line.state c.fill_to.new.source).inward) (sym (p.1 ∙ ap Err p.2))
    (stopped (Exactly c.args.len) c.args.read_buffer c.fill_to.new.self _ _ c.in_err-fill_to.ensures.gains_source_bytes c.in_err-fill_to.field-0.0 c.in_err-fill_to.ensures.err_before_enough)

pub returns-then-not-branch-clause-gives_body : goal.returns-then-not-branch-clause-gives_body
returns-then-not-branch-clause-gives_body g c =
    let ended = rw c.if-not-branch.true at c.in_ok-fill_to.ensures.enough_or_ended in
    rw c.len.ensures.exact (too_few c.args.read_buffer c.fill_to.new.self _ _ c.in_ok-fill_to.ensures.gains_source_bytes c.args.len ended.0 ended.1)

pub returns-clause-gives_body : goal.returns-clause-gives_body
returns-clause-gives_body g c =
    let all = rw c.if-not-branch.false at c.in_ok-fill_to.ensures.enough_or_ended in
    rw c.into_first_bytes.ensures.exact (enough c.args.read_buffer c.fill_to.new.self _ _ c.in_ok-fill_to.ensures.gains_source_bytes c.args.len all)
