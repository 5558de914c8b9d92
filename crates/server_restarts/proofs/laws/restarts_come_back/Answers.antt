use Rattle.logged_state.proofs.Crashes.{between, in_calls}
use Rattle.server_restarts.specs.StatesOfLogs.{BeginsAt}
use Rattle.server_restarts.proofs.Numbers.{not_lower, told_by_calls}
use Rattle.server_restarts.proofs.OneState.{next_led, one_state_led, same_change}
use Rattle.xcap_machine.specs.Machine.{ValidStep}
use Rattle.server_restarts.proofs.laws.restarts_come_back.Goals as goal

pub returns : goal.returns
returns c = record {
  between_calls = λ root. between (ValidStep root) (BeginsAt root) (same_change root);
  in_all_calls = λ root old new pending calls is answers. in_calls (ValidStep root) (BeginsAt root) (same_change root) calls old new pending is answers;
  one_state = one_state_led;
  same_number = next_led;
  told_once = λ root old new calls answers. (told_by_calls root calls old new answers).1;
  never_lower = not_lower;
}
