use Rattle.xcap_client.proofs.CallTraffic.{connects_once}
use Rattle.xcap_client.proofs.laws.calls_make_one_connection.Goals as goal

pub returns : goal.returns
returns c = record { one_at_most = connects_once }
