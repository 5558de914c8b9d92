use Rattle.xcap_uri.proofs.MeaningLemmas.{is_read, meant, nowhere}
use Rattle.xcap_uri.proofs.laws.addresses_are_read_as_they_mean.Goals as goal

pub returns-clause-meaning_is_read : goal.returns-clause-meaning_is_read
returns-clause-meaning_is_read c = is_read

pub returns-clause-reading_is_meant : goal.returns-clause-reading_is_meant
returns-clause-reading_is_meant c = meant

pub returns-clause-fault_says_nowhere : goal.returns-clause-fault_says_nowhere
returns-clause-fault_says_nowhere c = nowhere
