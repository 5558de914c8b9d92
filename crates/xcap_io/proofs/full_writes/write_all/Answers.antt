use Rattle.std.proofs.Common.{◌∙◌, arith, length-drop}
use Rattle.std.proofs.lemmas.List.{take_rest}
use Rattle.xcap_io.proofs.Lines.{writes_on}
use Rattle.xcap_io.proofs.Steps.{appends_next}
use Rattle.xcap_io.proofs.full_writes.write_all.Goals as goal

pub loop-done-preserved : goal.loop-done-preserved
loop-done-preserved g c =
    let so_far = c.loop-done.invariant in
    let call = c.in_ok-done.ensures in
    let bytes = c.args.bytes.now in
    let done = c.loop-done.done in
    record {
      within = omega (arith, length-drop done bytes, rw take_rest at call.in_bounds.1);
      taken = appends_next _ _ _ done c.in_ok-done.field-0 bytes so_far.taken (rw take_rest at call.appends_written);
      writes = writes_on _ _ _ so_far.writes call.only_writes.writes;
      stayed = call.only_writes.counts ∙ so_far.stayed;
    }
