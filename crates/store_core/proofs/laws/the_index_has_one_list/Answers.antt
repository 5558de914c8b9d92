use Rattle.store_core.proofs.ByUser.{index_trees, one-index-trees, some-index-trees}
use Rattle.store_core.proofs.laws.the_index_has_one_list.Goals as goal

pub returns-clause-list_exists : goal.returns-clause-list_exists
returns-clause-list_exists c = λ m. (index_trees m, some-index-trees m)

pub returns-clause-lists_are_one : goal.returns-clause-lists_are_one
returns-clause-lists_are_one c = one-index-trees
