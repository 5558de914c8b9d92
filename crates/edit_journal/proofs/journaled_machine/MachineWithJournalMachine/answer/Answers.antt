use Rattle.std.proofs.Common.{refl}
use Rattle.edit_journal.specs.inner.JournaledMachines.{JournaledMachineState}
use Rattle.edit_journal.proofs.Loggable.{loggable}
use Rattle.edit_journal.proofs.LoggedMachines.{step_after, takes_after}
use Rattle.edit_journal.proofs.journaled_machine.MachineWithJournalMachine.answer.Goals as goal

pub answer_logged-requires-clause-loggable : goal.answer_logged-requires-clause-loggable
answer_logged-requires-clause-loggable g c = loggable c.args.request.now c.requires.request_read

pub returns-clause-makes_step : goal.returns-clause-makes_step
returns-clause-makes_step g c =
    let j = g.J.Journal.state in
    let s = c.args.self.now in
    let old : JournaledMachineState g.row.M.Denot = record { machine = s.machine.now; log = s.log.now; journal = j s.journal.now; machine_name = s.machine.ghost_name; log_name = s.log.ghost_name; journal_name = s.journal.ghost_name } in
    let new : JournaledMachineState g.row.M.Denot =
    record { machine = c.answer_logged.new.self; log = c.answer_logged.new.log; journal = j c.answer_logged.new.journal; machine_name = s.machine.ghost_name; log_name = s.log.ghost_name; journal_name = s.journal.ghost_name } in
    step_after g.M.LoggedMachine.steps old new c.args.request.now c.answer_logged.result c.answer_logged.ensures.machine_reply c.answer_logged.ensures.goes_on c.answer_logged.ensures.still_fits refl refl refl

pub returns-clause-takes_one_fewer : goal.returns-clause-takes_one_fewer
returns-clause-takes_one_fewer g c =
    let j = g.J.Journal.state in
    let s = c.args.self.now in
    let old : JournaledMachineState g.row.M.Denot = record { machine = s.machine.now; log = s.log.now; journal = j s.journal.now; machine_name = s.machine.ghost_name; log_name = s.log.ghost_name; journal_name = s.journal.ghost_name } in
    let new : JournaledMachineState g.row.M.Denot =
    record { machine = c.answer_logged.new.self; log = c.answer_logged.new.log; journal = j c.answer_logged.new.journal; machine_name = s.machine.ghost_name; log_name = s.log.ghost_name; journal_name = s.journal.ghost_name } in
    takes_after g.M.LoggedMachine.steps old new c.args.request.now _ _ c.answer_logged.result c.answer_logged.ensures.machine_reply c.answer_logged.ensures.err_unchanged c.answer_logged.ensures.still_fits
