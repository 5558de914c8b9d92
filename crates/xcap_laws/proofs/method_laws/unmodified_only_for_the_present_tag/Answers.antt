use Rattle.xcap_laws.proofs.UnmodifiedAnswers.{unmodified_only}
use Rattle.xcap_laws.proofs.method_laws.unmodified_only_for_the_present_tag.Goals as goal

pub returns : goal.returns
returns c = record { names_present = unmodified_only }
