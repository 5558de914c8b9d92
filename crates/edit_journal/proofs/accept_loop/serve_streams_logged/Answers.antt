use Rattle.std.proofs.Common.{rules}
use Rattle.edit_journal.specs.Journals.{IsJournalProgress}
use Rattle.edit_journal.specs.JournalLogs.{LogFitsJournal}
use Rattle.edit_journal.specs.LoggedPorts.{ServesLogged}
use Rattle.edit_journal.proofs.LogAccounts.{port_goes, port_logged}
use Rattle.edit_journal.proofs.accept_loop.serve_streams_logged.Goals as goal

pub returns-clause-serves_port : goal.returns-clause-serves_port
returns-clause-serves_port g c = λ requests holds.
    let j = g.J.Journal.state in
    let p = c.serve_streams.new.machine in
    let goes = port_goes _ p g.M.LoggedMachine.steps
    (λ s. record { machine = s.machine.now; log = s.log.now; journal = j s.journal.now; machine_name = s.machine.ghost_name; log_name = s.log.ghost_name; journal_name = s.journal.ghost_name })
    g.W.Watchers.keeps _ _ _ _ _ _ c.serve_streams.ensures.serves_port c.requires.fits in
    let r : ServesLogged g.M.LoggedMachine.steps g.W.Watchers.keeps (record { most = c.args.count; served = c.serve_streams.result }) requests (record { machine = record { machine = c.args.machine.now; log = c.args.log.now; journal = j c.args.journal.now }; stream = g.P.Line.state c.args.port.now; watchers = c.args.watchers.now }) (record { machine = record { machine = p.machine.now; log = p.log.now; journal = j p.journal.now }; stream = g.P.Line.state c.serve_streams.new.port; watchers = c.serve_streams.new.watchers }) =
    port_logged _ p g.M.LoggedMachine.steps
    (λ s. record { machine = s.machine.now; log = s.log.now; journal = j s.journal.now; machine_name = s.machine.ghost_name; log_name = s.log.ghost_name; journal_name = s.journal.ghost_name })
    g.W.Watchers.keeps _ _ _ _ _ _ c.serve_streams.ensures.serves_port requests holds in
    let same_machine = goes.same_machine in
    let same_log = goes.same_log in
    let same_journal = goes.same_journal in
    search (rules, r)

pub returns-clause-still_fits : goal.returns-clause-still_fits
returns-clause-still_fits g c =
    let j = g.J.Journal.state in
    let p = c.serve_streams.new.machine in
    let goes = port_goes _ p g.M.LoggedMachine.steps
    (λ s. record { machine = s.machine.now; log = s.log.now; journal = j s.journal.now; machine_name = s.machine.ghost_name; log_name = s.log.ghost_name; journal_name = s.journal.ghost_name })
    g.W.Watchers.keeps _ _ _ _ _ _ c.serve_streams.ensures.serves_port c.requires.fits in
    let same_machine = goes.same_machine in
    let same_log = goes.same_log in
    let same_journal = goes.same_journal in
    let r : LogFitsJournal p.log.now (j p.journal.now) = goes.fits in
    search (rules, r)

pub returns-clause-goes_on : goal.returns-clause-goes_on
returns-clause-goes_on g c =
    let j = g.J.Journal.state in
    let p = c.serve_streams.new.machine in
    let goes = port_goes _ p g.M.LoggedMachine.steps
    (λ s. record { machine = s.machine.now; log = s.log.now; journal = j s.journal.now; machine_name = s.machine.ghost_name; log_name = s.log.ghost_name; journal_name = s.journal.ghost_name })
    g.W.Watchers.keeps _ _ _ _ _ _ c.serve_streams.ensures.serves_port c.requires.fits in
    let same_machine = goes.same_machine in
    let same_log = goes.same_log in
    let same_journal = goes.same_journal in
    let r : IsJournalProgress (j c.args.journal.now) (j p.journal.now) = goes.goes in
    search (rules, r)
