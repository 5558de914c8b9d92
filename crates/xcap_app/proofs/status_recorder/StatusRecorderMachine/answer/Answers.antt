use Rattle.xcap_app.proofs.SampleRuns.{answers_noting}
use Rattle.xcap_app.proofs.status_recorder.StatusRecorderMachine.answer.Goals as goal

pub returns-clause-makes_step : goal.returns-clause-makes_step
returns-clause-makes_step c =
    let a = c.in_ok-answered.ensures in
    answers_noting c.args.self.now c.record_status.new.self c.self.inside.server c.answer.new.server _ _ c.args.request.now c.in_ok-answered.answered.reply c.status.result c.in_ok-answered.answered.edit
    c.self.view_is c.record_status.ensures.exact c.status.ensures.ok a.same_root a.machine_step
