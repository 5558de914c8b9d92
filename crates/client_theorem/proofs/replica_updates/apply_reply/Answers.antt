use Rattle.std.proofs.Common.{◌≡◌, Err, Ok, refl, ap, subst, ◌∙◌}
use Rattle.std.proofs.lemmas.Result.{err_from_is_err_and}
use Rattle.patch_apply.specs.DiffTexts.{NoticeAnswer}
use Rattle.patch_apply.specs.Views.{replica_view}
use Rattle.client_theorem.proofs.NoticeResults.{refused, taken}
use Rattle.client_theorem.proofs.replica_updates.apply_reply.Goals as goal

pub returns-in_err-applied-clause-takes_reply : goal.returns-in_err-applied-clause-takes_reply
returns-in_err-applied-clause-takes_reply c =
    let p = err_from_is_err_and c.from_residual-in_err-applied.result c.from_residual-in_err-applied.ensures.1 in
    let told = c.status.ensures.ok in
    let is = c.if-status-ne200.false in
    let status : c.args.reply.now.status ≡ 200 = cc in
    refused c.args.replica.now.doc (record { old = replica_view c.args.replica.now.held; result = c.from_residual-in_err-applied.result; new = replica_view c.apply_notice.new.replica.held }) c.args.reply.now c.in_ok-notice.notice
    c.in_err-applied.field-0.0 (p.1 ∙ ap Err p.2) status
    (subst (λ b. NoticeAnswer b (Ok c.in_ok-notice.notice)) c.body.ensures.exact c.in_ok-notice.ensures.grammar_answer) c.in_err-applied.ensures.as_specified

pub returns-clause-takes_reply : goal.returns-clause-takes_reply
returns-clause-takes_reply c =
    let told = c.status.ensures.ok in
    let is = c.if-status-ne200.false in
    let status : c.args.reply.now.status ≡ 200 = cc in
    taken c.args.replica.now.doc (record { old = replica_view c.args.replica.now.held; result = Ok c.in_ok-applied.applied; new = replica_view c.apply_notice.new.replica.held }) c.args.reply.now c.in_ok-notice.notice c.in_ok-applied.applied refl status
    (subst (λ b. NoticeAnswer b (Ok c.in_ok-notice.notice)) c.body.ensures.exact c.in_ok-notice.ensures.grammar_answer) c.in_ok-applied.ensures.as_specified
