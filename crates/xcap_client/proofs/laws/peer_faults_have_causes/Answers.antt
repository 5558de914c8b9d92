use Rattle.xcap_client.proofs.Causes.{peer_failed}
use Rattle.xcap_client.proofs.laws.peer_faults_have_causes.Goals as goal

pub returns : goal.returns
returns c = record { count_rises = peer_failed }
