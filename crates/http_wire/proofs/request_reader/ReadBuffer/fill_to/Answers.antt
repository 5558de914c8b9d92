use Rattle.std.proofs.Common.{◌∙◌}
use Rattle.std.proofs.lemmas.Result.{err_from_is_err_and}
use Rattle.xcap_io.proofs.Lines.{reads_on}
use Rattle.http_wire.proofs.ItemLemmas.{gains_on, only_reads_on}
use Rattle.http_wire.proofs.request_reader.ReadBuffer.fill_to.Goals as goal

pub returns-in_err-fill-clause-gains_source_bytes : goal.returns-in_err-fill-clause-gains_source_bytes
returns-in_err-fill-clause-gains_source_bytes g c = gains_on _ _ _ _ _ _ c.reading.invariant.gains c.in_err-fill.ensures.gains_source_bytes

pub returns-in_err-fill-clause-only_reads : goal.returns-in_err-fill-clause-only_reads
returns-in_err-fill-clause-only_reads g c =
    let p = err_from_is_err_and c.from_residual.result c.from_residual.ensures.1 in
    rw p.1 (only_reads_on _ _ _ _ c.reading.invariant.reads c.reading.invariant.no_fault c.in_err-fill.ensures.only_reads)

pub returns-then-not-branch-clause-gains_source_bytes : goal.returns-then-not-branch-clause-gains_source_bytes
returns-then-not-branch-clause-gains_source_bytes g c = gains_on _ _ _ _ _ _ c.reading.invariant.gains c.in_ok-fill.ensures.gains_source_bytes

pub returns-then-not-branch-clause-only_reads : goal.returns-then-not-branch-clause-only_reads
returns-then-not-branch-clause-only_reads g c = record {
  reads = reads_on _ _ _ c.reading.invariant.reads c.in_ok-fill.ensures.only_reads.reads;
  counts = c.in_ok-fill.ensures.only_reads.counts ∙ c.reading.invariant.no_fault;
}

pub reading-preserved : goal.reading-preserved
reading-preserved g c = record {
  gains = gains_on _ _ _ _ _ _ c.reading.invariant.gains c.in_ok-fill.ensures.gains_source_bytes;
  reads = reads_on _ _ _ c.reading.invariant.reads c.in_ok-fill.ensures.only_reads.reads;
  no_fault = c.in_ok-fill.ensures.only_reads.counts ∙ c.reading.invariant.no_fault;
}
