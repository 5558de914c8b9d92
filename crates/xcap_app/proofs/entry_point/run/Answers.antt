use Rattle.xcap_app.proofs.Ends.{ran_told}
use Rattle.xcap_app.proofs.StandardServings.{standard_run}
use Rattle.xcap_app.proofs.entry_point.run.Goals as goal

pub returns : goal.returns
returns g c = record {
  exit_status = (
    c.report_exit.result,
    g.E.Line.state c.execute_words-exit.new.errors,
    c.status.ensures.exact,
    ran_told g.W.Watchers.keeps _ _ _ _ _ _ _ _ _ _ _ _ _ _ _ _ _ _ c.report_exit.ensures.exit_reported c.execute_words-exit.ensures.runs_command,
    c.report_exit.ensures.writes_words,
  );
  by_standards = λ address root count spelled. (
    c.report_exit.result,
    c.status.ensures.exact,
    standard_run g.W.Watchers.keeps c.args.first _ address root count _ _ _ _ _ _ _ _ _ _ _ _ _ _ _ _ c.report_exit.ensures.exit_reported c.execute_words-exit.ensures.runs_command spelled,
  );
}
