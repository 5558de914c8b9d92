use Rattle.state_snapshots.proofs.States.{one_state, state_kept}
use Rattle.state_snapshots.proofs.laws.snapshots_keep_states.Goals as goal

pub returns : goal.returns
returns c = record {
  kept = state_kept;
  one_state = one_state;
}
