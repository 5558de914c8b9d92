use Rattle.node_select.proofs.ListEdits.{set-insert}
use Rattle.node_select.proofs.GapLaws.{lawful_is, lawful_between, lawful_anywhere}
use Rattle.node_select.proofs.step_laws.lawful_gaps_are_computed.Goals as goal

pub returns : goal.returns
returns g c = record {
  lawful_iff = lawful_is;
  gaps_are_interval = lawful_between;
  gaps_are_alike = lawful_anywhere;
  put_again = λ step child_elements new gap le l. (l, set-insert child_elements gap new le);
}
