use Rattle.hall_serve.proofs.ServedInOrder.{matches_at_first, served_at_first}
use Rattle.hall_serve.proofs.laws.new_hall_has_served_nothing.Goals as goal

pub returns : goal.returns
returns g c = record {
  seats_match = λ hall seats empty free. matches_at_first hall seats empty free;
  served_nothing = λ hall seats empty free. served_at_first hall seats empty free;
}
