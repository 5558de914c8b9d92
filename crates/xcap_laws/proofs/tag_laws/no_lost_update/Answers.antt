use Rattle.xcap_laws.proofs.Conditions.{creates_only}
use Rattle.xcap_laws.proofs.Lost.{changes_named, changes_seen, one_of_two}
use Rattle.xcap_laws.proofs.tag_laws.no_lost_update.Goals as goal

pub returns-clause-changes_named : goal.returns-clause-changes_named
returns-clause-changes_named c = changes_named

pub returns-clause-changes_seen : goal.returns-clause-changes_seen
returns-clause-changes_seen c = changes_seen

pub returns-clause-one_of_two : goal.returns-clause-one_of_two
returns-clause-one_of_two c = one_of_two

pub returns-clause-creates_only : goal.returns-clause-creates_only
returns-clause-creates_only c = creates_only
