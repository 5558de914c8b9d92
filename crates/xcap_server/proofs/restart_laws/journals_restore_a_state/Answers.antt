use Rattle.xcap_server.proofs.RecordedChanges.{comes_to_a_state}
use Rattle.xcap_server.proofs.restart_laws.journals_restore_a_state.Goals as goal

pub returns : goal.returns
returns c = record { reaches_state = comes_to_a_state }
