use Rattle.xcap_app.proofs.Ends.{ran_none}
use Rattle.xcap_app.proofs.system.start.Goals as goal

pub returns-in_default-clause-exit_status : goal.returns-in_default-clause-exit_status
returns-in_default-clause-exit_status g c = (
  c.report_exit.result,
  _,
  c.status.ensures.exact,
  ran_none _ c.args.first _ _ _ _ c.in_default.is c.report_exit.ensures.exit_reported,
  c.report_exit.ensures.writes_words,
)
