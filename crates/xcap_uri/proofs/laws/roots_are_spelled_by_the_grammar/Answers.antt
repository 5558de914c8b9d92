use Rattle.xcap_uri.proofs.RootAnswers.{by_either}
use Rattle.xcap_uri.proofs.laws.roots_are_spelled_by_the_grammar.Goals as goal

pub returns : goal.returns
returns c = record { root_by_pieces = by_either }
