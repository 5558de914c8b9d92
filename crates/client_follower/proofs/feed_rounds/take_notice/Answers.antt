use Rattle.std.proofs.Common.{ap, ◌∙◌}
use Rattle.std.specs.Prelude.{Err}
use Rattle.std.proofs.lemmas.Result.{err_from_is_err_and}
use Rattle.patch_apply.specs.Views.{replica_view}
use Rattle.client_follower.specs.FeedResults.{applies}
use Rattle.client_follower.proofs.ResponseContents.{notice_refused, sound_is_low}
use Rattle.client_follower.proofs.feed_rounds.take_notice.Goals as goal

pub returns-in_err-notice-clause-takes_diff : goal.returns-in_err-notice-clause-takes_diff
returns-in_err-notice-clause-takes_diff c =
    let p = err_from_is_err_and c.from_residual.result c.from_residual.ensures.1 in
    notice_refused c.args.replica.now.doc c.args.body.now (replica_view c.args.replica.now.held) c.in_err-notice.field-0.0 c.from_residual.result c.in_err-notice.ensures.grammar_answer (p.1 ∙ ap Err p.2)

pub apply_notice-requires : goal.apply_notice-requires
apply_notice-requires c = record { height_bounded = sound_is_low (replica_view c.args.replica.now.held) c.requires.is_sound }

pub returns-clause-takes_diff : goal.returns-clause-takes_diff
returns-clause-takes_diff c =
    applies c.in_ok-notice.notice c.apply_notice.result c.in_ok-notice.ensures.grammar_answer c.apply_notice.ensures.as_specified c.round_outcome.ensures.exact
