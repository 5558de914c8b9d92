use Rattle.std.proofs.Common.{ℕ, List, Err, ◌≡◌, take, ap, sym, subst, ◌∙◌, arith}
use Rattle.std.proofs.Math.Seq.{take-length}
use Rattle.std.proofs.lemmas.Result.{err_from_is_err_and}
use Rattle.xcap_client.specs.declared.body_length.BodyLength.TheVariants.{ToEnd}
use Rattle.xcap_client.specs.inner.ResponseBodies.{ReadsBody}
use Rattle.xcap_client.proofs.Bodies.{stopped, to_end, too_many}
use Rattle.xcap_client.proofs.response.read_to_end.Goals as goal

pub returns-in_err-fill_to-clause-gives_body : goal.returns-in_err-fill_to-clause-gives_body
returns-in_err-fill_to-clause-gives_body g c =
    let p = err_from_is_err_and c.from_residual.result c.from_residual.ensures.1 in
    subst (ReadsBody ToEnd c.args.read_buffer (g.S.Line.state c.args.source.now).inward (g.S.Line.state c.fill_to.new.source).inward) (sym (p.1 ∙ ap Err p.2))
    (stopped ToEnd c.args.read_buffer c.fill_to.new.self _ _ c.in_err-fill_to.ensures.gains_source_bytes c.in_err-fill_to.field-0.0 (omega (arith, c.in_err-fill_to.ensures.err_before_enough)))

pub returns-then-branch-clause-gives_body : goal.returns-then-branch-clause-gives_body
returns-then-branch-clause-gives_body g c =
    let over = rw c.if-branch.true at c.in_ok-fill_to.ensures.enough_or_ended in
    too_many c.args.read_buffer c.fill_to.new.self _ _ c.in_ok-fill_to.ensures.gains_source_bytes over

pub returns-clause-gives_body : goal.returns-clause-gives_body
returns-clause-gives_body g c =
    let held : List ℕ = c.fill_to.new.self in
    let ended = rw c.if-branch.false at c.in_ok-fill_to.ensures.enough_or_ended in
    let whole : c.into_first_bytes.result ≡ held = c.into_first_bytes.ensures.exact ∙ ap (λ (n : ℕ). take n held) c.len-len.ensures.exact ∙ take-length held in
    rw whole (to_end c.args.read_buffer held _ _ c.in_ok-fill_to.ensures.gains_source_bytes ended.0 ended.1)
