use Rattle.xcap_client.proofs.KnownBytes.{known}
use Rattle.xcap_client.proofs.exchange_laws.known_bytes_decide.Goals as goal

pub returns : goal.returns
returns c = record { answers_all_bytes = known }
