use Rattle.std.proofs.Common.{subst}
use Rattle.xml_names.specs.ReadErrors.{FaultSatisfies}
use Rattle.xml_names.specs.declared.read_error.ReadError.{ReadError}
use Rattle.usage_docs.specs.declared.service_index.IndexFault.{IndexFault}
use Rattle.xcap_get.specs.inner.FoundResources.{HasLongIndex}
use Rattle.xcap_get.proofs.IndexResources.{leads_beyond, leads_index}
use Rattle.xcap_get.proofs.document_lookup.find_index.Goals as goal

pub returns-in-Ok-clause-leads_there : goal.returns-in-Ok-clause-leads_there
returns-in-Ok-clause-leads_there c =
    leads_index c.args.store.now.content c.in-Ok.root c.last_number.result c.in-Ok.ensures.lists_services c.in-Ok.ensures.within_limit c.last_number.ensures.below_next

pub returns-in-Err-Fault-clause-leads_there : goal.returns-in-Err-Fault-clause-leads_there
returns-in-Err-Fault-clause-leads_there c =
    let refused = c.in-Err-Fault.ensures.refused_beyond_limit in
    let found = subst (λ (error : ReadError IndexFault). FaultSatisfies (λ (fault : IndexFault). HasLongIndex c.args.store.now.content) error) c.in-Err-Fault.field-0-is refused in
    leads_beyond c.args.store.now.content found.0 found.1 found.2
