use Rattle.http_wire.proofs.OneTalk.{one_first_item, one_talk}
use Rattle.http_wire.proofs.laws.bytes_have_one_item_sequence.Goals as goal

pub returns-clause-first_item_unique : goal.returns-clause-first_item_unique
returns-clause-first_item_unique c = one_first_item

pub returns-clause-sequences_agree : goal.returns-clause-sequences_agree
returns-clause-sequences_agree c = one_talk
