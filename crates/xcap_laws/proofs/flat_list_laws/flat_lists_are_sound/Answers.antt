use Rattle.xcap_laws.proofs.MetAddresses as addresses
use Rattle.xcap_laws.proofs.flat_list_laws.flat_lists_are_sound.Goals as goal

pub returns : goal.returns
returns x = record { no_repetition = addresses.distinct; is_in_entry = addresses.met }
