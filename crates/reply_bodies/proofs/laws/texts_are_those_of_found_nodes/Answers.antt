use Rattle.reply_bodies.proofs.FoundNodes.{found_from_text, text_from_found}
use Rattle.reply_bodies.proofs.laws.texts_are_those_of_found_nodes.Goals as goal

pub returns : goal.returns
returns c = record { text_iff_found = λ root selector. (found_from_text root selector, text_from_found root selector) }
