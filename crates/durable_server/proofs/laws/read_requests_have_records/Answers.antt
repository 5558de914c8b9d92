use Rattle.durable_server.proofs.ReadRequests.{recordable_when_read}
use Rattle.durable_server.proofs.laws.read_requests_have_records.Goals as goal

pub returns : goal.returns
returns c = record { recordable = recordable_when_read }
