use Rattle.client_follower.proofs.ConnectionCounts.{start_begins}
use Rattle.client_follower.proofs.laws.starts_begin_one_connection.Goals as goal

pub returns : goal.returns
returns c = record { one_connection = start_begins }
