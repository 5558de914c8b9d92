-- How one call on a stream follows another.
use Rattle.std.proofs.Common.{◌≡◌, ℕ, Result, Ok, Err, refl, ◌∙◌, arith}
use Rattle.xcap_io.specs.StreamStates.{StreamState, CountsFaults, DiffersByReads, DiffersByWrites, OnlyWrites}

-- a call that counts, after a call that left the counter as it was
pub counts_on : {T E : Type 0} (first mid last : ℕ) (result : Result T E) → mid ≡ first → CountsFaults mid last result → CountsFaults first last result
counts_on first mid last (Ok x) stayed counts = counts ∙ stayed
counts_on first mid last (Err e) stayed counts = omega arith

pub reads_none : (line : StreamState) → DiffersByReads line line
reads_none line = record { later = omega arith; same_taken = refl; same_write_faults = refl; same_holds = refl; same_aside = refl; same_port = refl; same_peer = refl }

pub writes_none : (line : StreamState) → DiffersByWrites line line
writes_none line = record { later = omega arith; same_inward = refl; same_read_faults = refl; same_holds = refl; same_aside = refl; same_port = refl; same_peer = refl }

pub reads_on : (old mid new : StreamState) → DiffersByReads old mid → DiffersByReads mid new → DiffersByReads old new
reads_on old mid new first next = record {
  later = omega (arith, first.later, next.later);
  same_taken = next.same_taken ∙ first.same_taken;
  same_write_faults = next.same_write_faults ∙ first.same_write_faults;
  same_holds = next.same_holds ∙ first.same_holds;
  same_aside = next.same_aside ∙ first.same_aside;
  same_port = next.same_port ∙ first.same_port;
  same_peer = next.same_peer ∙ first.same_peer;
}

pub writes_on : (old mid new : StreamState) → DiffersByWrites old mid → DiffersByWrites mid new → DiffersByWrites old new
writes_on old mid new first next = record {
  later = omega (arith, first.later, next.later);
  same_inward = next.same_inward ∙ first.same_inward;
  same_read_faults = next.same_read_faults ∙ first.same_read_faults;
  same_holds = next.same_holds ∙ first.same_holds;
  same_aside = next.same_aside ∙ first.same_aside;
  same_port = next.same_port ∙ first.same_port;
  same_peer = next.same_peer ∙ first.same_peer;
}

-- a write after writes that did not fail
pub only_writes_on : {T E : Type 0} (old mid new : StreamState) (result : Result T E) → DiffersByWrites old mid → mid.write_faults ≡ old.write_faults → OnlyWrites mid new result → OnlyWrites old new result
only_writes_on old mid new result first stayed next = record {
  writes = writes_on old mid new first next.writes;
  counts = counts_on old.write_faults mid.write_faults new.write_faults result stayed next.counts;
}
