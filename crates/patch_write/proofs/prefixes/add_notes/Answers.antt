use Rattle.std.proofs.Common.{[]}
use Rattle.patch_rules.specs.inner.DeclaredPrefixes.{declared_prefixes}
use Rattle.patch_write.specs.inner.DeclaredPrefixes.{inserted_prefixes, record_prefixes}
use Rattle.patch_write.proofs.PrefixSets.{gains-end, gains-next, gains-none, gains-then}
use Rattle.patch_write.proofs.prefixes.add_notes.Goals as goal

pub loop-note-init : goal.loop-note-init
loop-note-init c = gains-none c.args.seen.now

pub loop-note-preserved : goal.loop-note-preserved
loop-note-preserved c =
    let n = c.note-item.result in
    gains-next record_prefixes [] c.args.notes.now c.loop-note.note-index n c.args.seen.now c.loop-note.seen c.add_change.new.seen c.loop-note-test.true c.note-item.is c.loop-note.invariant
    (gains-then (declared_prefixes n.bindings) (inserted_prefixes n.change) c.loop-note.seen c.add_decls.new.seen c.add_change.new.seen (rw c.bindings.ensures.exact at c.in_ok-add_decls.ensures.gains_prefixes) (rw c.change.ensures.exact at c.in_ok-add_change.ensures.gains_prefixes))

pub returns : goal.returns
returns c = record { gains_prefixes = gains-end record_prefixes [] c.args.notes.now c.loop-note.note-index c.args.seen.now c.loop-note.seen c.loop-note-test.false c.loop-note.invariant }
