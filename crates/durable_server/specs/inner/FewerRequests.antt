-- A server that can answer n + 1 requests can answer n.
use Rattle.std.proofs.Common.{arith}
use Rattle.std.specs.Prelude.{ℕ, suc}
use Rattle.logged_state.specs.DurableAnswers.{DurableState}
use Rattle.xcap_machine.specs.ServerStates.{ServerState}
use Rattle.durable_server.specs.DurableMachines.{CanAnswer}

pub can_answer_fewer : (IsSound : Type 0) (server : DurableState ServerState) (n : ℕ)
    → CanAnswer IsSound server (suc n) → CanAnswer IsSound server n
can_answer_fewer IsSound server n can =
    record {
      kept = can.kept;
      is_kept = can.is_kept;
      sound = can.sound;
      begun = can.begun;
      numbers_left = omega (arith, can.numbers_left);
    }
