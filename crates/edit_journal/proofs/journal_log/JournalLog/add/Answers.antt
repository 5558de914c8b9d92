use Rattle.std.proofs.Common.{true, ap}
use Rattle.std.proofs.lemmas.Result.{MatchResult-from_err}
use Rattle.edit_journal.specs.JournalLogs.{LogState}
use Rattle.edit_journal.proofs.LogLemmas.{whole_len, behind_some}
use Rattle.edit_journal.proofs.journal_log.JournalLog.add.Goals as goal

pub returns-in_err-append-clause-err_keeps_whole : goal.returns-in_err-append-clause-err_keeps_whole
returns-in_err-append-clause-err_keeps_whole g c =
    let call = c.in_err-append.ensures.appends_bytes in
    let old = g.J.Journal.state c.args.journal.now in
    let new = g.J.Journal.state c.append.new.self in
    let some = behind_some old.held new.held c.args.self.now.len c.args.bytes.now (whole_len c.args.self.now old c.requires.not_torn c.requires.fits) call.added in
    MatchResult-from_err c.from_residual.result _ _ c.from_residual.ensures.0 (λ y. (ap (λ (m : LogState). record m { is_torn = true }) c.self.view_is, some, call.counts))
