use Rattle.std.proofs.Common.{ap, ◌∙◌}
use Rattle.std.specs.Prelude.{Err}
use Rattle.std.proofs.lemmas.Result.{err_from_is_err_and}
use Rattle.client_follower.proofs.FollowerRequests.{not_started}
use Rattle.client_follower.proofs.follower.Follower.start.Goals as goal

pub returns-in_err-kept_root : goal.returns-in_err-kept_root
returns-in_err-kept_root g c = record {
  starts_follower =
      let p = err_from_is_err_and c.from_residual.result c.from_residual.ensures.1 in
      not_started _ (g.C.Line.state c.args.peer.now) c.from_residual.result (p.1 ∙ ap Err p.2);
}

pub returns-in_err-kept_user : goal.returns-in_err-kept_user
returns-in_err-kept_user g c = record {
  starts_follower =
      let p = err_from_is_err_and c.from_residual-in_err-kept_user.result c.from_residual-in_err-kept_user.ensures.1 in
      not_started _ (g.C.Line.state c.args.peer.now) c.from_residual-in_err-kept_user.result (p.1 ∙ ap Err p.2);
}

pub returns-in_err-kept_doc : goal.returns-in_err-kept_doc
returns-in_err-kept_doc g c = record {
  starts_follower =
      let p = err_from_is_err_and c.from_residual-in_err-kept_doc.result c.from_residual-in_err-kept_doc.ensures.1 in
      not_started _ (g.C.Line.state c.args.peer.now) c.from_residual-in_err-kept_doc.result (p.1 ∙ ap Err p.2);
}
