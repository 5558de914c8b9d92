use Rattle.edit_journal.specs.inner.JournaledMachines.{JournaledMachineState}
use Rattle.edit_journal.proofs.LoggedMachines.{lent_step}
use Rattle.edit_journal.proofs.journaled_machine.MachineWithJournalMachine.answer_reading.Goals as goal

pub returns-clause-makes_step : goal.returns-clause-makes_step
returns-clause-makes_step g c =
    let s = c.args.self.now in
    let state : JournaledMachineState g.row.M.Denot = record { machine = s.machine.now; log = s.log.now; journal = g.J.Journal.state s.journal.now; machine_name = s.machine.ghost_name; log_name = s.log.ghost_name; journal_name = s.journal.ghost_name } in
    lent_step g.M.LoggedMachine.steps state c.args.request.now c.requires.room_left.0 c.answer_reading.result c.answer_reading.ensures.makes_step
