use Rattle.std.proofs.Common.{◌≡◌, ◌++◌, ℕ, length, take, Ok, Err, sym, ap, ◌∙◌, subst, arith, length-drop}
use Rattle.std.specs.Borrow.{GName}
use Rattle.std.proofs.lemmas.List.{take_rest, take_all}
use Rattle.xcap_io.proofs.Lines.{writes_on}
use Rattle.xcap_io.proofs.Steps.{appends_next}
use Rattle.edit_journal.specs.Journals.{AppendsPiece}
use Rattle.edit_journal.specs.StreamJournals.{stream_journal_state}
use Rattle.edit_journal.proofs.Pieces.{counted, stream_adds, stream_stops}
use Rattle.edit_journal.proofs.stream_journal.StreamJournalJournal.append.Goals as goal

pub loop-done-preserved : goal.loop-done-preserved
loop-done-preserved g c =
    let so_far = c.loop-done.invariant in
    let call = c.in-Ok.ensures in
    let bytes = c.args.bytes.now in
    let done = c.loop-done.done in
    record {
      within = omega (arith, length-drop done bytes, rw take_rest at call.in_bounds.1);
      taken = appends_next _ _ _ done c.in-Ok.count bytes so_far.taken (rw take_rest at call.appends_written);
      writes = writes_on _ _ _ so_far.writes call.only_writes.writes;
      stayed = call.only_writes.counts ∙ so_far.stayed;
      count = omega (arith, so_far.count);
      name = so_far.name;
      faults = so_far.faults;
    }

pub returns-in-Err : goal.returns-in-Err
returns-in-Err g c =
    let so_far = c.loop-done.invariant in
    let call = c.in-Err.ensures in
    let bytes = c.args.bytes.now in
    let done = c.loop-done.done in
    let old = g.O.Line.state c.args.self.now.output.now in
    let mid = g.O.Line.state c.loop-done.self.output.now in
    let new = g.O.Line.state c.write.new.self in record {
      appends_bytes =
          subst (λ (name : GName). AppendsPiece (stream_journal_state old c.args.self.now.output.ghost_name c.args.self.now.len c.args.self.now.faults) (stream_journal_state new name c.loop-done.self.len c.count_fault.new.count) (Err c.count_fault.result) bytes)
          (sym so_far.name)
          (stream_stops old new c.args.self.now.output.ghost_name c.args.self.now.len c.loop-done.self.len c.args.self.now.faults c.count_fault.new.count c.count_fault.result bytes done so_far.within
          c.requires (call.appends_written ∙ so_far.taken) so_far.count (writes_on old mid new so_far.writes call.only_writes.writes)
          (omega (arith, so_far.faults, c.count_fault.ensures.count_never_falls)) (omega (arith, so_far.faults, c.count_fault.ensures.count_rises)) (omega (arith, so_far.stayed, call.only_writes.counts)));
    }

pub returns : goal.returns
returns g c =
    let so_far = c.loop-done.invariant in
    let bytes = c.args.bytes.now in
    let done = c.loop-done.done in
    let all : take done bytes ≡ bytes = take_all done bytes c.loop-done-test.false in
    let whole : done ≡ length bytes = omega (arith, so_far.within, c.loop-done-test.false) in
    let old = g.O.Line.state c.args.self.now.output.now in
    let new = g.O.Line.state c.loop-done.self.output.now in record {
      appends_bytes =
          subst (λ (name : GName). AppendsPiece (stream_journal_state old c.args.self.now.output.ghost_name c.args.self.now.len c.args.self.now.faults) (stream_journal_state new name c.loop-done.self.len c.loop-done.self.faults) (Ok tt) bytes)
          (sym so_far.name)
          (stream_adds old new c.args.self.now.output.ghost_name c.args.self.now.len c.loop-done.self.len c.args.self.now.faults c.loop-done.self.faults bytes
          c.requires (so_far.taken ∙ ap (λ l. old.taken ++ l) all) (so_far.count ∙ ap (λ (n : ℕ). counted c.args.self.now.len n) whole) so_far.writes so_far.faults);
    }
