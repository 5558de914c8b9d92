use Rattle.std.proofs.Common.{◌≡◌, [], true, ap, sym, ◌∙◌, subst, ℕ}
use Rattle.std.proofs.lemmas.Result.{MatchResult-from_err}
use Rattle.edit_journal.specs.Journals.{KeepsFirstBytes}
use Rattle.edit_journal.specs.JournalLogs.{LogState}
use Rattle.edit_journal.proofs.LogLemmas.{behind_kept}
use Rattle.edit_journal.proofs.journal_log.JournalLog.repair.Goals as goal

pub returns-in_err-cut-clause-err_keeps_whole : goal.returns-in_err-cut-clause-err_keeps_whole
returns-in_err-cut-clause-err_keeps_whole g c =
    let call = c.in_err-cut.ensures.cuts_to_len in
    let old = g.J.Journal.state c.args.journal.now in
    let new = g.J.Journal.state c.cut.new.self in
    let torn : c.args.self.now.is_torn ≡ true = sym (ap (λ (m : LogState). m.is_torn) c.self.view_is) ∙ c.if-not-self.false in
    let len : c.self.inside.len ≡ c.args.self.now.len = ap (λ (m : LogState). m.len) c.self.view_is in
    let kept = behind_kept old.held new.held c.args.self.now.len [] (subst (λ (n : ℕ). KeepsFirstBytes old.held new.held n) len call.kept) in
    MatchResult-from_err c.from_residual.result _ _ c.from_residual.ensures.0
    (λ y. ((λ i. record { len = c.args.self.now.len; is_torn = torn i }), kept, call.counts))
