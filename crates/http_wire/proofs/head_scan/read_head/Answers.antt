use Rattle.std.proofs.Common.{refl, ◌∙◌, arith}
use Rattle.std.proofs.lemmas.Result.{err_from_is_err_and}
use Rattle.xcap_io.proofs.Lines.{reads_none, reads_on}
use Rattle.http_wire.proofs.Fronts.{no_head_in_none}
use Rattle.http_wire.proofs.ItemLemmas.{gains_none, gains_on, failed_on}
use Rattle.http_wire.proofs.head_scan.read_head.Goals as goal

pub looking-init : goal.looking-init
looking-init g c = record {
  gains = gains_none _ _;
  reads = reads_none _;
  no_fault = refl;
  inside = omega arith;
  none = no_head_in_none;
}

pub returns-in_err-fill-in-Open-clause-gains_source_bytes : goal.returns-in_err-fill-in-Open-clause-gains_source_bytes
returns-in_err-fill-in-Open-clause-gains_source_bytes g c = gains_on _ _ _ _ _ _ c.looking.invariant.gains c.in_err-fill-in-Open.ensures.gains_source_bytes

pub returns-then-not-branch-clause-gains_source_bytes : goal.returns-then-not-branch-clause-gains_source_bytes
returns-then-not-branch-clause-gains_source_bytes g c = gains_on _ _ _ _ _ _ c.looking.invariant.gains c.in_ok-fill-in-Open.ensures.gains_source_bytes

pub returns-in_err-fill-in-Open-clause-only_reads : goal.returns-in_err-fill-in-Open-clause-only_reads
returns-in_err-fill-in-Open-clause-only_reads g c =
    let p = err_from_is_err_and c.from_residual.result c.from_residual.ensures.1 in
    rw p.1 (failed_on _ _ _ _ c.looking.invariant.reads c.looking.invariant.no_fault c.in_err-fill-in-Open.ensures.only_reads)

pub returns-then-not-branch-clause-only_reads : goal.returns-then-not-branch-clause-only_reads
returns-then-not-branch-clause-only_reads g c = record {
  reads = reads_on _ _ _ c.looking.invariant.reads c.in_ok-fill-in-Open.ensures.only_reads.reads;
  counts = c.in_ok-fill-in-Open.ensures.only_reads.counts ∙ c.looking.invariant.no_fault;
}
