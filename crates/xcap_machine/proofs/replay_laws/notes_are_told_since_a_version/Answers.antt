use Rattle.xcap_machine.proofs.Present.{some_version}
use Rattle.xcap_machine.proofs.replay_laws.notes_are_told_since_a_version.Goals as goal

pub returns : goal.returns
returns x = record { version_exists = some_version }
