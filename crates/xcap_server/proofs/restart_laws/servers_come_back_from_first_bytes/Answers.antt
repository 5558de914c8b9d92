use Rattle.xcap_server.proofs.ServerRestarts.{comes_back}
use Rattle.xcap_server.proofs.restart_laws.servers_come_back_from_first_bytes.Goals as goal

pub returns : goal.returns
returns c = record { restarts_there = comes_back }
