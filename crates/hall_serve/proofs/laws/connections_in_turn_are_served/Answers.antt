use Rattle.http_serve.specs.ReplyBytes.{StepsInBytes}
use Rattle.hall_serve.proofs.ServedInOrder.{served_in_order}
use Rattle.hall_serve.proofs.laws.connections_in_turn_are_served.Goals as goal

pub returns : goal.returns
returns g c = record {
  one_after_other = λ hall seats machine next all served in_turn steps closed. served_in_order (StepsInBytes g.M.Machine.steps) hall seats machine next all served in_turn steps closed;
  one_seat = λ hall seats all one served. (served.one_place one).in_turn;
}
