use Rattle.unread_parts.proofs.RecordedRequests.{recorded_changes}
use Rattle.unread_parts.proofs.laws.recorded_requests_change_the_same.Goals as goal

pub returns : goal.returns
returns c = record { same_change = recorded_changes }
