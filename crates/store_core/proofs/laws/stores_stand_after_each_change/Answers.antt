use Rattle.store_core.proofs.PresentDocuments.{has_documents_after}
use Rattle.store_core.proofs.StateContents.{stands-state_after}
use Rattle.store_core.proofs.laws.stores_stand_after_each_change.Goals as goal

pub returns : goal.returns
returns c = record { represents_after = stands-state_after; has_documents_after = has_documents_after }
