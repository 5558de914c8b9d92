use Rattle.store_core.proofs.Bridge.{told_since}
use Rattle.store_core.proofs.since.notes_since_a_version_lead_from_it.Goals as goal

pub returns : goal.returns
returns c = record { records_lead_here = told_since }
