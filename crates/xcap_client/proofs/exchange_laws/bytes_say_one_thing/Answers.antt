use Rattle.xcap_client.proofs.OneMeaning.{one_meaning}
use Rattle.xcap_client.proofs.exchange_laws.bytes_say_one_thing.Goals as goal

pub returns : goal.returns
returns c = record { at_most_one = one_meaning }
