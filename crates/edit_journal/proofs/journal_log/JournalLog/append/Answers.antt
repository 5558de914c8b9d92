use Rattle.std.proofs.Common.{◌≡◌, List, ℕ, length, ap, ◌∙◌, subst, arith, Ok}
use Rattle.std.proofs.lemmas.Result.{err_from_is_err_and}
use Rattle.edit_journal.specs.JournalLogs.{LogState, AddsRecord}
use Rattle.edit_journal.specs.inner.AppendSteps.{AppendsToLog, FailsToAppend}
use Rattle.edit_journal.specs.Records.{record_of}
use Rattle.edit_journal.proofs.Lengths.{record_length}
use Rattle.edit_journal.proofs.WholeRecords.{adding_keeps_records}
use Rattle.edit_journal.proofs.LogLemmas.{added_on, not_added_on, not_added_for}
use Rattle.edit_journal.proofs.journal_log.JournalLog.append.Goals as goal

pub returns-in_err-repair-clause-adds_record : goal.returns-in_err-repair-clause-adds_record
returns-in_err-repair-clause-adds_record g c =
    let p = err_from_is_err_and c.from_residual-in_err-repair.result c.from_residual-in_err-repair.ensures.1 in
    rw (p.1, p.2) (not_added_for c.args.self.now (g.J.Journal.state c.args.journal.now) c.repair.new.self (g.J.Journal.state c.repair.new.journal) (record_of c.args.request.now) c.in_err-repair.ensures.err_keeps_whole)

pub add-requires-clause-room_left : goal.add-requires-clause-room_left
add-requires-clause-room_left g c =
    let same : c.as_slice.result.now ≡ record_of c.args.request.now = c.as_slice.ensures.exact ∙ c.in_ok-record.ensures.ok in
    let len : c.repair.new.self.len ≡ c.args.self.now.len = ap (λ (m : LogState). m.len) c.in_ok-repair.ensures.repairs_tail.0 in
    omega (arith, ap length same, record_length c.args.request.now, c.requires.recordable.short, c.requires.room_left, len)

pub returns-in_err-add-clause-adds_record : goal.returns-in_err-add-clause-adds_record
returns-in_err-add-clause-adds_record g c =
    let p = err_from_is_err_and c.from_residual-in_err-add.result c.from_residual-in_err-add.ensures.1 in
    let same : c.as_slice.result.now ≡ record_of c.args.request.now = c.as_slice.ensures.exact ∙ c.in_ok-record.ensures.ok in
    let mid = g.J.Journal.state c.repair.new.journal in
    let new = g.J.Journal.state c.add.new.journal in
    let not : FailsToAppend c.repair.new.self mid (record_of c.args.request.now) c.add.new.self new =
    subst (λ (l : List ℕ). FailsToAppend c.repair.new.self mid l c.add.new.self new) same c.in_err-add.ensures.err_keeps_whole in
    rw (p.1, p.2) (not_added_on c.args.self.now (g.J.Journal.state c.args.journal.now) c.repair.new.self mid c.add.new.self new (record_of c.args.request.now) c.in_ok-repair.ensures.repairs_tail not)

pub returns-in_err-repair-clause-keeps_records : goal.returns-in_err-repair-clause-keeps_records
returns-in_err-repair-clause-keeps_records g c =
    adding_keeps_records c.args.self.now c.repair.new.self (g.J.Journal.state c.args.journal.now) (g.J.Journal.state c.repair.new.journal) c.args.request.now c.from_residual-in_err-repair.result
    c.requires.recordable (returns-in_err-repair-clause-adds_record g c)

pub returns-in_err-add-clause-keeps_records : goal.returns-in_err-add-clause-keeps_records
returns-in_err-add-clause-keeps_records g c =
    adding_keeps_records c.args.self.now c.add.new.self (g.J.Journal.state c.args.journal.now) (g.J.Journal.state c.add.new.journal) c.args.request.now c.from_residual-in_err-add.result
    c.requires.recordable (returns-in_err-add-clause-adds_record g c)

pub returns-clause-keeps_records : goal.returns-clause-keeps_records
returns-clause-keeps_records g c =
    let same : c.as_slice.result.now ≡ record_of c.args.request.now = c.as_slice.ensures.exact ∙ c.in_ok-record.ensures.ok in
    let old = g.J.Journal.state c.args.journal.now in
    let mid = g.J.Journal.state c.repair.new.journal in
    let new = g.J.Journal.state c.add.new.journal in
    let added : AppendsToLog c.repair.new.self mid (record_of c.args.request.now) c.add.new.self new =
    subst (λ (l : List ℕ). AppendsToLog c.repair.new.self mid l c.add.new.self new) same c.in_ok-add.ensures.adds_bytes in
    let adds : AddsRecord (record { log = c.args.self.now; journal = old }) (record_of c.args.request.now) (Ok tt) (record { log = c.add.new.self; journal = new }) =
    added_on c.args.self.now old c.repair.new.self mid c.add.new.self new (record_of c.args.request.now) c.in_ok-repair.ensures.repairs_tail added in
    adding_keeps_records c.args.self.now c.add.new.self old new c.args.request.now (Ok tt) c.requires.recordable adds

pub returns-in_err-repair-clause-no_memory_unchanged : goal.returns-in_err-repair-clause-no_memory_unchanged
returns-in_err-repair-clause-no_memory_unchanged g c =
    let p = err_from_is_err_and c.from_residual-in_err-repair.result c.from_residual-in_err-repair.ensures.1 in
    λ is. let no : ⊥ = cc in absurd no

pub returns-in_err-add-clause-no_memory_unchanged : goal.returns-in_err-add-clause-no_memory_unchanged
returns-in_err-add-clause-no_memory_unchanged g c =
    let p = err_from_is_err_and c.from_residual-in_err-add.result c.from_residual-in_err-add.ensures.1 in
    λ is. let no : ⊥ = cc in absurd no
