use Rattle.http_wire.proofs.KnownTraffic.{all_give_first, first_by_all, first_of_all}
use Rattle.http_wire.proofs.laws.given_bytes_determine_first_item.Goals as goal

pub returns-clause-of_all : goal.returns-clause-of_all
returns-clause-of_all c = first_of_all

pub returns-clause-all_given : goal.returns-clause-all_given
returns-clause-all_given c = λ before bytes item. (first_by_all before bytes item, all_give_first before bytes item)
