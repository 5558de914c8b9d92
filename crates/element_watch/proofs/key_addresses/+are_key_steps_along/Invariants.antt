use Rattle.std.proofs.Common.{length}
use Rattle.element_watch.proofs.key_addresses.+are_key_steps_along.Given as goal

abbrev pub decreases-are_key_steps_along : goal.decreases-are_key_steps_along
decreases-are_key_steps_along l = length l.path.now
