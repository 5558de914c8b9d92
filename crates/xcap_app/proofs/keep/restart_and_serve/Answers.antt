use Rattle.std.proofs.Common.{◌≡◌, ◌<◌, ℕ, List, length, inl, refl, sym, ap, subst, ◌∙◌, arith}
use Rattle.xcap_io.specs.StreamStates.{CountRises}
use Rattle.xcap_io.specs.StreamTraffic.{TakesBytes}
use Rattle.edit_journal.specs.JournalLogs.{LogState}
use Rattle.edit_journal.specs.JournalTexts.{journal_text}
use Rattle.edit_journal.specs.Journals.{JournalState}
use Rattle.edit_journal.specs.StreamJournals.{stream_journal_state}
use Rattle.edit_journal.proofs.JournalCalls.{goes_on}
use Rattle.xcap_app.specs.KeepCommand.{EndsKeep, OldJournal, keeps_on, no_journal}
use Rattle.xcap_app.proofs.KeepEndings.{breaks_off, journal_read, keeps_so, short_text}
use Rattle.xcap_app.proofs.Streams.{wrote}
use Rattle.xcap_app.proofs.keep.restart_and_serve.Goals as goal

pub returns-in-Err-clause-keeps_command : goal.returns-in-Err-clause-keeps_command
returns-in-Err-clause-keeps_command g c = λ output output' s.
    let i = g.I.Line.state in
    no_journal c.in-Err.fault (inl c.exit_after_restart.ensures.exact)
    (breaks_off (i c.args.input.now) (i c.restart.new.source) _ _ c.args.server.now c.restart.new.replayer c.requires.empty c.restart.ensures.same_subject output output' c.requires.no_fault s c.in-Err.fault c.in-Err.ensures.as_specified)
    refl refl

pub returns-in-Err-clause-goes_on : goal.returns-in-Err-clause-goes_on
returns-in-Err-clause-goes_on g c = c.in-Err.ensures.as_specified.goes

pub returns-clause-goes_on : goal.returns-clause-goes_on
returns-clause-goes_on g c = goes_on _ _ _ c.in-Ok.ensures.as_specified.goes c.serve_logged.ensures.goes_on

pub returns-clause-keeps_command : goal.returns-clause-keeps_command
returns-clause-keeps_command g c = λ output output' s.
    let i = g.I.Line.state in
    let o = g.O.Line.state in
    let p = g.P.Line.state in
    let k = c.serve_logged.new.journal in
    let later : JournalState = stream_journal_state (o k.output.now) k.output.ghost_name k.len k.faults in
    let restarts = c.in-Ok.ensures.as_specified in
    let read = journal_read (i c.args.input.now) (i c.restart.new.source) _ _ c.args.server.now c.restart.new.replayer c.requires.empty c.restart.ensures.same_subject c.in-Ok.log restarts in
    let journal : OldJournal = record { bytes = restarts.bytes; requests = restarts.requests; rest = restarts.rest; state = read.0.state } in
    let root : c.restart.new.replayer.root ≡ c.args.server.now.root = c.restart.ensures.same_subject in
    let kept = c.serve_logged.ensures.keeps_on journal read.0.kept read.0.stands read.0.redone restarts.recorded restarts.ending.4 in
    keeps_on journal read.1 s.just_written
    (keeps_so g.W.Watchers.keeps (λ bytes. later.held ≡ bytes) (TakesBytes output.taken output'.taken) (0 < later.faults) (CountRises output.write_faults output'.write_faults) (λ bytes held. wrote output output' later bytes s held) s.cause (record { address = c.args.address.now; root = c.args.server.now.root; count = c.args.count }) journal
    (record { port = p c.args.port.now; watchers = c.args.watchers.now }) (record { port = p c.serve_logged.new.port; watchers = c.serve_logged.new.watchers }) c.serve_logged.result
    (subst (λ (root : List ℕ). EndsKeep g.W.Watchers.keeps (λ bytes. later.held ≡ bytes) (0 < later.faults) (record { address = c.args.address.now; root = root; count = c.args.count }) c.serve_logged.result journal (record { port = p c.args.port.now; watchers = c.args.watchers.now }) (record { port = p c.serve_logged.new.port; watchers = c.serve_logged.new.watchers })) root kept))

pub serve_logged-requires-clause-not_torn : goal.serve_logged-requires-clause-not_torn
serve_logged-requires-clause-not_torn g c = ap (λ (l : LogState). l.is_torn) c.in-Ok.ensures.as_specified.ending.5

pub serve_logged-requires-clause-fits : goal.serve_logged-requires-clause-fits
serve_logged-requires-clause-fits g c =
    let r = c.in-Ok.ensures.as_specified in
    ap length r.ending.4 ∙ sym (ap (λ (l : LogState). l.len) r.ending.5)

pub serve_logged-requires-clause-length_bounded : goal.serve_logged-requires-clause-length_bounded
serve_logged-requires-clause-length_bounded g c =
    let r = c.in-Ok.ensures.as_specified in
    omega (arith, ap (λ (l : LogState). l.len) r.ending.5, short_text r.bytes r.rest (journal_text r.requests) r.split)

pub serve_logged-requires-clause-no_fault : goal.serve_logged-requires-clause-no_fault
serve_logged-requires-clause-no_fault g c = c.in-Ok.ensures.as_specified.faults.1 ∙ c.requires.no_fault
