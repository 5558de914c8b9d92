use Rattle.std.proofs.Common.{◌≡◌, ◌/◌, ◌++◌, length, take, ap, sym, ◌∙◌, arith, append-nil}
use Rattle.edit_journal.specs.MemoryJournals.{MemoryJournal}
use Rattle.edit_journal.proofs.Pieces.{memory_stops}
use Rattle.edit_journal.proofs.mem_journal.MemJournalJournal.append.Goals as goal

pub returns-then-not-has_room-clause-appends_bytes : goal.returns-then-not-has_room-clause-appends_bytes
returns-then-not-has_room-clause-appends_bytes c =
    let before : c.is_failing_call-fails.new.self.faults ≡ c.args.self.now.faults = ap (λ (m : MemoryJournal). m.faults) c.is_failing_call-fails.ensures.counts_call in
    memory_stops c.args.self.now c.fail.new.self c.fail.result c.args.bytes.now 0
    (ap (λ (m : MemoryJournal). m.held) c.fail.ensures.counts_one_more ∙ ap (λ (m : MemoryJournal). m.held) c.is_failing_call-fails.ensures.counts_call ∙ sym (append-nil c.args.self.now.held))
    (omega (arith, before, c.fail.ensures.count_never_falls)) (omega (arith, before, c.fail.ensures.count_rises))

pub returns-then-fails-clause-appends_bytes : goal.returns-then-fails-clause-appends_bytes
returns-then-fails-clause-appends_bytes c =
    let mid = c.is_failing_call-fails.new.self in
    let before : c.append_piece.new.self.faults ≡ c.args.self.now.faults = ap (λ (m : MemoryJournal). m.faults) c.append_piece.ensures.exact ∙ ap (λ (m : MemoryJournal). m.faults) c.is_failing_call-fails.ensures.counts_call in
    memory_stops c.args.self.now c.fail-then-fails.new.self c.fail-then-fails.result c.args.bytes.now (length c.args.bytes.now / 2)
    (ap (λ (m : MemoryJournal). m.held) c.fail-then-fails.ensures.counts_one_more ∙ ap (λ (m : MemoryJournal). m.held) c.append_piece.ensures.exact
    ∙ ap (λ (m : MemoryJournal). m.held ++ take (length c.args.bytes.now / 2) c.args.bytes.now) c.is_failing_call-fails.ensures.counts_call)
    (omega (arith, before, c.fail-then-fails.ensures.count_never_falls)) (omega (arith, before, c.fail-then-fails.ensures.count_rises))
