use Rattle.std.proofs.Common.{Bool, Err, ap, sym, subst, ◌∙◌}
use Rattle.std.proofs.lemmas.Result.{err_from_is_err_and}
use Rattle.xcap_io.proofs.Lines.{reads_on}
use Rattle.http_wire.proofs.ItemLemmas.{gains_on}
use Rattle.xcap_client.specs.inner.FillErrors.{CountsFillError}
use Rattle.xcap_client.proofs.Counts.{stop_on}
use Rattle.xcap_client.proofs.read_buffer.ReadBuffer.fill_to.Goals as goal

pub returns-in_err-fill-clause-gains_source_bytes : goal.returns-in_err-fill-clause-gains_source_bytes
returns-in_err-fill-clause-gains_source_bytes g c = gains_on _ _ _ _ _ _ c.reading.invariant.gains c.in_err-fill.ensures.gains_source_bytes

pub returns-in_err-fill-clause-only_reads : goal.returns-in_err-fill-clause-only_reads
returns-in_err-fill-clause-only_reads g c = reads_on _ _ _ c.reading.invariant.reads c.in_err-fill.ensures.only_reads

pub returns-in_err-fill-clause-faults_never_fall : goal.returns-in_err-fill-clause-faults_never_fall
returns-in_err-fill-clause-faults_never_fall g c =
    let p = err_from_is_err_and c.from_residual.result c.from_residual.ensures.1 in
    subst (CountsFillError (g.S.Line.state c.args.source.now).read_faults (g.S.Line.state c.fill.new.source).read_faults) (sym (p.1 ∙ ap Err p.2))
    (stop_on Bool Bool _ _ _ c.in_err-fill.field-0.0 c.reading.invariant.no_fault c.in_err-fill.ensures.faults_never_fall)

pub returns-then-not-branch-clause-gains_source_bytes : goal.returns-then-not-branch-clause-gains_source_bytes
returns-then-not-branch-clause-gains_source_bytes g c = gains_on _ _ _ _ _ _ c.reading.invariant.gains c.in_ok-fill.ensures.gains_source_bytes

pub returns-then-not-branch-clause-only_reads : goal.returns-then-not-branch-clause-only_reads
returns-then-not-branch-clause-only_reads g c = reads_on _ _ _ c.reading.invariant.reads c.in_ok-fill.ensures.only_reads

pub returns-then-not-branch-clause-faults_never_fall : goal.returns-then-not-branch-clause-faults_never_fall
returns-then-not-branch-clause-faults_never_fall g c = c.in_ok-fill.ensures.faults_never_fall ∙ c.reading.invariant.no_fault

pub reading-preserved : goal.reading-preserved
reading-preserved g c = record {
  gains = gains_on _ _ _ _ _ _ c.reading.invariant.gains c.in_ok-fill.ensures.gains_source_bytes;
  reads = reads_on _ _ _ c.reading.invariant.reads c.in_ok-fill.ensures.only_reads;
  no_fault = c.in_ok-fill.ensures.faults_never_fall ∙ c.reading.invariant.no_fault;
}
