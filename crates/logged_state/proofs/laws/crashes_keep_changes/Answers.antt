use Rattle.logged_state.proofs.Crashes.{between, in_call, in_calls}
use Rattle.logged_state.proofs.laws.crashes_keep_changes.Goals as goal

pub returns : goal.returns
returns g c =
    let steps = g.M.DurableMachine.steps in
    let begins = g.M.DurableMachine.begins in
    let suffice = g.met.M.DurableMachine.records_suffice in record {
      between_calls = between steps begins suffice;
      in_a_call = λ old new pending call is answers finds. in_call steps begins suffice old new pending call is answers finds;
      in_all_calls = λ old new pending calls is answers. in_calls steps begins suffice calls old new pending is answers;
    }
