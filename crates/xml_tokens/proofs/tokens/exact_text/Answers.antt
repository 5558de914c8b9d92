use Rattle.std.proofs.Common.{chars}
use Rattle.xml_tokens.proofs.ReadFronts.{word_before}
use Rattle.xml_tokens.proofs.tokens.exact_text.Goals as goal

pub returns-in-Some : goal.returns-in-Some
returns-in-Some c = record { reads_rule = word_before (chars c.args.front.now) (chars c.args.text.now) (chars c.in-Some.rest.now) c.in-Some.ensures.front_and_rest }
