use Rattle.std.proofs.Common.{[], ◌∷◌, chars}
use Rattle.xml_tokens.proofs.AheadLemmas.{word_unread}
use Rattle.xml_tokens.proofs.raw_name.end_tag_start.Goals as goal

pub returns-in-None : goal.returns-in-None
returns-in-None c = record { reads_rule = word_unread 60 (47 ∷ []) (chars c.args.text.now) c.in-None.ensures.none_not_next }
