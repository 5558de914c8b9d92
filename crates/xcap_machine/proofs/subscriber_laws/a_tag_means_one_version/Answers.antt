use Rattle.xcap_machine.proofs.SubscriberLemmas.{one_of_a_tag}
use Rattle.xcap_machine.proofs.subscriber_laws.a_tag_means_one_version.Goals as goal

pub returns : goal.returns
returns x = record { same_version = one_of_a_tag }
