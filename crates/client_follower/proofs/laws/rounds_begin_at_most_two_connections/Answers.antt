use Rattle.client_follower.proofs.ConnectionCounts.{round_begins}
use Rattle.client_follower.proofs.laws.rounds_begin_at_most_two_connections.Goals as goal

pub returns : goal.returns
returns c = record { two_at_most = round_begins }
