use Rattle.std.proofs.Common.{◌≡◌, ap, ◌∙◌, arith}
use Rattle.edit_journal.specs.MemoryJournals.{MemoryJournal}
use Rattle.edit_journal.proofs.Pieces.{memory_keeps}
use Rattle.edit_journal.proofs.mem_journal.MemJournalJournal.cut.Goals as goal

pub returns-then-is_failing_call-clause-cuts_to_len : goal.returns-then-is_failing_call-clause-cuts_to_len
returns-then-is_failing_call-clause-cuts_to_len c =
    let before : c.is_failing_call.new.self.faults ≡ c.args.self.now.faults = ap (λ (m : MemoryJournal). m.faults) c.is_failing_call.ensures.counts_call in
    memory_keeps c.args.self.now c.fail.new.self c.fail.result c.args.len c.requires.within
    (ap (λ (m : MemoryJournal). m.held) c.fail.ensures.counts_one_more ∙ ap (λ (m : MemoryJournal). m.held) c.is_failing_call.ensures.counts_call)
    (omega (arith, before, c.fail.ensures.count_never_falls)) (omega (arith, before, c.fail.ensures.count_rises))
