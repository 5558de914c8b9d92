use Rattle.xcap_machine.proofs.Effects.{put_is_there}
use Rattle.xcap_machine.proofs.machine_laws.what_was_put_is_there.Goals as goal

pub returns : goal.returns
returns c = record { node_exists = put_is_there }
