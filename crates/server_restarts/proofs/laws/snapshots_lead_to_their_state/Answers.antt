use Rattle.server_restarts.proofs.Snapshots.{snapshot_leads}
use Rattle.server_restarts.proofs.laws.snapshots_lead_to_their_state.Goals as goal

pub returns : goal.returns
returns c = record { leads = snapshot_leads }
