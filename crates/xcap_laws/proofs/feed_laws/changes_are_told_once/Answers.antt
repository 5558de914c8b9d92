use Rattle.xcap_laws.proofs.LaterVersions as later
use Rattle.xcap_laws.proofs.feed_laws.changes_are_told_once.Goals as goal

pub returns : goal.returns
returns x = record { told_once = later.told_once }
