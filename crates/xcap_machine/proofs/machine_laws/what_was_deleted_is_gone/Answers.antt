use Rattle.xcap_machine.proofs.Effects.{deleted_is_gone}
use Rattle.xcap_machine.proofs.machine_laws.what_was_deleted_is_gone.Goals as goal

pub returns : goal.returns
returns c = record { deleted_is_gone = deleted_is_gone }
