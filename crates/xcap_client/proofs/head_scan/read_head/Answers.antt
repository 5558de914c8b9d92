use Rattle.std.proofs.Common.{Bool, Option, Err, refl, ap, sym, subst, ◌∙◌, arith}
use Rattle.std.proofs.lemmas.Result.{err_from_is_err_and}
use Rattle.httparse.specs.declared.spans.ResponseSpans.{ResponseSpans}
use Rattle.xcap_io.proofs.Lines.{reads_none, reads_on}
use Rattle.http_wire.proofs.ItemLemmas.{gains_none, gains_on}
use Rattle.xcap_client.specs.inner.FillErrors.{CountsFillError}
use Rattle.xcap_client.proofs.Counts.{stop_on}
use Rattle.xcap_client.proofs.Fronts.{no_head_in_none}
use Rattle.xcap_client.proofs.head_scan.read_head.Goals as goal

pub looking-init : goal.looking-init
looking-init g c = record {
  gains = gains_none _ _;
  reads = reads_none _;
  no_fault = refl;
  inside = omega arith;
  none = no_head_in_none;
}

pub returns-in_err-fill-in-Open-clause-gains_source_bytes : goal.returns-in_err-fill-in-Open-clause-gains_source_bytes
returns-in_err-fill-in-Open-clause-gains_source_bytes g c = gains_on _ _ _ _ _ _ c.looking.invariant.gains c.in_err-fill-in-Open.ensures.gains_source_bytes

pub returns-then-not-branch-clause-gains_source_bytes : goal.returns-then-not-branch-clause-gains_source_bytes
returns-then-not-branch-clause-gains_source_bytes g c = gains_on _ _ _ _ _ _ c.looking.invariant.gains c.in_ok-fill-in-Open.ensures.gains_source_bytes

pub returns-in_err-fill-in-Open-clause-only_reads : goal.returns-in_err-fill-in-Open-clause-only_reads
returns-in_err-fill-in-Open-clause-only_reads g c = reads_on _ _ _ c.looking.invariant.reads c.in_err-fill-in-Open.ensures.only_reads

pub returns-in_err-fill-in-Open-clause-faults_never_fall : goal.returns-in_err-fill-in-Open-clause-faults_never_fall
returns-in_err-fill-in-Open-clause-faults_never_fall g c =
    let p = err_from_is_err_and c.from_residual.result c.from_residual.ensures.1 in
    subst (CountsFillError (g.S.Line.state c.args.source.now).read_faults (g.S.Line.state c.fill.new.source).read_faults) (sym (p.1 ∙ ap Err p.2))
    (stop_on Bool (Option ResponseSpans) _ _ _ c.in_err-fill-in-Open.field-0.0 c.looking.invariant.no_fault c.in_err-fill-in-Open.ensures.faults_never_fall)

pub returns-then-not-branch-clause-only_reads : goal.returns-then-not-branch-clause-only_reads
returns-then-not-branch-clause-only_reads g c = reads_on _ _ _ c.looking.invariant.reads c.in_ok-fill-in-Open.ensures.only_reads

pub returns-then-not-branch-clause-faults_never_fall : goal.returns-then-not-branch-clause-faults_never_fall
returns-then-not-branch-clause-faults_never_fall g c = c.in_ok-fill-in-Open.ensures.faults_never_fall ∙ c.looking.invariant.no_fault
