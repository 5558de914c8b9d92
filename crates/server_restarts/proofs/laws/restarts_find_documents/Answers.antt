use Rattle.logged_state.proofs.Crashes.{between, in_calls}
use Rattle.server_restarts.specs.KeptDocuments.{BeginsWithDocuments}
use Rattle.server_restarts.proofs.KeptDocuments.{after_snapshot, keeps_too, leads_with_documents, with_snapshot_instead}
use Rattle.server_restarts.proofs.OneState.{same_change}
use Rattle.xcap_machine.specs.Machine.{ValidStep}
use Rattle.server_restarts.proofs.laws.restarts_find_documents.Goals as goal

pub returns : goal.returns
returns c = record {
  leads = leads_with_documents;
  kept_with_state = keeps_too;
  between_calls = λ root. between (ValidStep root) (BeginsWithDocuments root) (same_change root);
  in_all_calls = λ root old new pending calls is answers. in_calls (ValidStep root) (BeginsWithDocuments root) (same_change root) calls old new pending is answers;
  after_snapshot = after_snapshot;
  unsettled_snapshot = with_snapshot_instead;
}
