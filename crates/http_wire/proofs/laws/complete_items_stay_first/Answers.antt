use Rattle.http_wire.proofs.WholeItems.{whole_stays, none_whole}
use Rattle.http_wire.proofs.laws.complete_items_stay_first.Goals as goal

pub returns-clause-whole_item_first : goal.returns-clause-whole_item_first
returns-clause-whole_item_first c = whole_stays

pub returns-clause-unfinished_not_whole : goal.returns-clause-unfinished_not_whole
returns-clause-unfinished_not_whole c = none_whole
