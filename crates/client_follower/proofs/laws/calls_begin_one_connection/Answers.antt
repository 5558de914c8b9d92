use Rattle.client_follower.proofs.ConnectionCounts.{call_begins}
use Rattle.client_follower.proofs.laws.calls_begin_one_connection.Goals as goal

pub returns : goal.returns
returns c = record { one_connection = call_begins }
