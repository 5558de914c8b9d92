use Rattle.std.proofs.Common.{Option, subst, sym}
use Rattle.usage_docs.specs.declared.validation.Fault.{Fault}
use Rattle.usage_docs.specs.Validation.{HasFirstFault}
use Rattle.usage_docs.proofs.FindingLemmas.{judged_by}
use Rattle.usage_docs.proofs.validation.first_fault.Goals as goal

pub returns : goal.returns
returns c =
    let found = c.find_in_root-found.ensures in
    record {
      has_first_fault = subst (λ (fault : Option Fault). HasFirstFault c.args.usage c.args.root.now fault) (sym c.fault_of_result.ensures.exact)
          (judged_by c.args.usage c.args.root.now c.find_in_root-found.result found.valid_document found.formed_document (found.first_document_clash c.requires.height_bounded));
    }
