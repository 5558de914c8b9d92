use Rattle.list_resolve.proofs.OneList.{some_list, one_list}
use Rattle.list_resolve.proofs.laws.services_have_one_flat_list.Goals as goal

pub returns : goal.returns
returns c = record { exists_one = some_list; at_most_one = one_list }
