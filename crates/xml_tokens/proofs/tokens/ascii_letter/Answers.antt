use Rattle.std.proofs.Common.{[], ◌∷◌, chars}
use Rattle.xml_tokens.proofs.AheadLemmas.{word_unread}
use Rattle.xml_tokens.proofs.ReadFronts.{word_before}
use Rattle.xml_tokens.proofs.tokens.ascii_letter.Goals as goal

pub returns-in-Some : goal.returns-in-Some
returns-in-Some c = record { reads_rule = word_before (c.args.expected ∷ []) (chars c.args.text.now) (chars c.in-Some.rest.now) c.in-Some.ensures.letter_and_rest }

pub returns-in-None : goal.returns-in-None
returns-in-None c = record { reads_rule = word_unread c.args.expected [] (chars c.args.text.now) c.in-None.ensures.none_not_next }
