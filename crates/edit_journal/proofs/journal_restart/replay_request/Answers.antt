use Rattle.std.proofs.Common.{◌+◌, refl}
use Rattle.std.proofs.lemmas.Result.{err_from_is_err_and}
use Rattle.edit_journal.proofs.ReplayedRequests.{replay_progress, stops_refused, one_redone, one_stopped}
use Rattle.edit_journal.proofs.journal_restart.replay_request.Goals as goal

pub returns-in-Refused : goal.returns-in-Refused
returns-in-Refused g c = record {
  redoes_request = λ more.
      stops_refused g.R.Replayer.stands g.R.Replayer.refuses (replay_progress c.args.replayer.now (g.J.Journal.state c.args.journal.now) c.args.log.now c.args.count.now) c.redo.new.self (c.args.count.now + 1) c.args.request.now more
      c.requires.is_reported c.in-Refused.ensures.redoes_request refl;
  same_subject = c.redo.ensures.same_subject;
}

pub returns-in_err-append : goal.returns-in_err-append
returns-in_err-append g c = record {
  redoes_request = λ more.
      let p = err_from_is_err_and c.from_residual.result c.from_residual.ensures.1 in
      rw (p.1, p.2) (one_stopped g.R.Replayer.stands g.R.Replayer.refuses (replay_progress c.args.replayer.now (g.J.Journal.state c.args.journal.now) c.args.log.now c.args.count.now) (replay_progress c.redo.new.self (g.J.Journal.state c.append.new.journal) c.append.new.self (c.args.count.now + 1))
      c.args.request.now c.in_err-append.field-0.0 more c.requires.is_reported c.requires.not_torn c.requires.fits c.in-Done.ensures.redoes_request c.in_err-append.ensures.adds_record c.in_err-append.ensures.goes_on);
  same_subject = c.redo.ensures.same_subject;
}

pub returns : goal.returns
returns g c = record {
  redoes_request = λ more.
      one_redone g.R.Replayer.stands g.R.Replayer.refuses (replay_progress c.args.replayer.now (g.J.Journal.state c.args.journal.now) c.args.log.now c.args.count.now) (replay_progress c.redo.new.self (g.J.Journal.state c.append.new.journal) c.append.new.self (c.args.count.now + 1))
      c.args.request.now more c.requires.is_reported c.requires.not_torn c.requires.fits c.in-Done.ensures.redoes_request refl c.in_ok-append.ensures.adds_record c.in_ok-append.ensures.goes_on;
  same_subject = c.redo.ensures.same_subject;
}
