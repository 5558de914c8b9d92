use Rattle.std.proofs.Common.{ap, subst, ◌∙◌, Err}
use Rattle.xml_names.specs.ReadErrors.{ResultSatisfies}
use Rattle.xml_names.specs.declared.read_error.ReadError.{ReadError}
use Rattle.patch_apply.specs.inner.Results.{IsEditResult}
use Rattle.patch_apply.specs.inner.OutcomeViews.{fault_of_operation}
use Rattle.patch_parse.specs.declared.operation_error.OperationError.{OperationError}
use Rattle.patch_apply.proofs.OperationOrder.{wrong_told}
use Rattle.patch_apply.proofs.document_outcomes.numbered_error.Goals as goal

pub returns-in-Fault : goal.returns-in-Fault
returns-in-Fault c = record {
  numbered_fault = λ n stated new e h.
      wrong_told n stated c.in-Fault.wrong c.fault_of_operation.result (subst (λ (x : ReadError OperationError). ResultSatisfies (IsEditResult stated new) (Err x)) c.in-Fault.is h)
      (c.fault_of_operation.ensures.exact ∙ ap (λ k. fault_of_operation k c.in-Fault.wrong) e);
}
