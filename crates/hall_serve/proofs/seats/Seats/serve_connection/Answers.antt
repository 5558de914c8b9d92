use Rattle.std.proofs.Common.{◌≡◌, ℕ, ◌+◌, ◌<◌, List, Option, None, length, sym, subst, ◌∙◌}
use Rattle.std.proofs.lemmas.List.{get_or_default}
use Rattle.hall_serve.specs.Seats.{SeatState, requests_left, requests_left_at, seat_at}
use Rattle.hall_serve.proofs.RequestsLeft.{takes_at, takes_set}
use Rattle.hall_serve.proofs.TurnOutcomes.{place_within}
use Rattle.hall_serve.proofs.seats.Seats.serve_connection.Goals as goal

pub serve_place-requires-clause-room_left : goal.serve_place-requires-clause-room_left
serve_place-requires-clause-room_left g c =
    let places : List (Option SeatState) = c.self.inside.places.items in
    let k : ℕ = c.args.id.place in
    let inside : k < length places = subst (λ (l : List (Option SeatState)). k < length l) (sym c.self.view_is) (place_within (g.H.Hall.state c.args.hall.now) c.args.self.now c.args.id c.requires.seats_match c.requires.open) in
    let at : seat_at places k ≡ c.index_mut.result.now = get_or_default places k None c.index_mut.result.now inside ∙ sym c.index_mut.ensures.value in
    subst (λ (p : Option SeatState). g.M.Machine.takes c.args.machine.now (requests_left_at p)) at
    (takes_at g.M.Machine.takes g.met.M.Machine.takes_fewer places k inside c.args.machine.now (subst (λ (l : List (Option SeatState)). g.M.Machine.takes c.args.machine.now (requests_left l)) (sym c.self.view_is) c.requires.room_left))

pub returns-clause-takes_on : goal.returns-clause-takes_on
returns-clause-takes_on g c =
    let places : List (Option SeatState) = c.self.inside.places.items in
    let k : ℕ = c.args.id.place in
    let inside : k < length places = subst (λ (l : List (Option SeatState)). k < length l) (sym c.self.view_is) (place_within (g.H.Hall.state c.args.hall.now) c.args.self.now c.args.id c.requires.seats_match c.requires.open) in
    let at : seat_at places k ≡ c.index_mut.result.now = get_or_default places k None c.index_mut.result.now inside ∙ sym c.index_mut.ensures.value in
    λ n takes. takes_set g.M.Machine.takes g.met.M.Machine.takes_fewer places k c.serve_place.new.place inside c.args.machine.now c.serve_place.new.machine
    (λ m t. c.serve_place.ensures.takes_on m (subst (λ (p : Option SeatState). g.M.Machine.takes c.args.machine.now (requests_left_at p + m)) at t)) n
    (subst (λ (l : List (Option SeatState)). g.M.Machine.takes c.args.machine.now (requests_left l + n)) (sym c.self.view_is) takes)
