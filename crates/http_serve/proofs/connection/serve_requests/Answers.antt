use Rattle.std.proofs.Common.{ap, arith}
use Rattle.http_wire.specs.NextRequests.{RequestReaderState}
use Rattle.http_serve.proofs.Rooms.{last_answered, none_answered, one_answered, room_for_one}
use Rattle.http_serve.proofs.TurnLemmas.{another, at_end, at_first}
use Rattle.http_serve.proofs.connection.serve_requests.Goals as goal

pub turns-init : goal.turns-init
turns-init g c = record {
  so_far = at_first _ _ _ _ _ _ c.requires.fresh (g.met.W.Watchers.none _);
  open_still = ap (λ (w : RequestReaderState). w.spent) c.requires.fresh;
  below = let e = ap (λ (w : RequestReaderState). w.requests) c.requires.fresh in omega (arith, e);
  room = none_answered g.M.Machine.takes g.met.M.Machine.takes_fewer c.args.machine.now _ (ap (λ (w : RequestReaderState). w.requests) c.requires.fresh);
}

pub turns-preserved : goal.turns-preserved
turns-preserved g c =
    let i = c.turns.invariant in
    let n = another _ _ g.met.W.Watchers.more _ _ _ _ _ _ _ _ _ _ _ i.so_far c.serve_next.result c.in_default.is c.serve_next.ensures.makes_one_turn c.serve_next.ensures.goes_on c.serve_next.ensures.counts_faults c.serve_next.ensures.this_stream_alone i.below in
    record {
      so_far = n.0;
      open_still = n.1.0;
      below = n.1.1;
      room = one_answered g.M.Machine.takes g.met.M.Machine.takes_fewer _ _ _ _ _ i.below (c.serve_next.ensures.goes_on c.in_default.is).requests i.room c.serve_next.ensures.takes_one_fewer;
    }

pub serve_next-requires-clause-room_left : goal.serve_next-requires-clause-room_left
serve_next-requires-clause-room_left g c = room_for_one g.M.Machine.takes g.met.M.Machine.takes_fewer c.args.machine.now _ _ c.turns.invariant.below c.requires.room_left c.turns.invariant.room

pub returns-in-Some-clause-serves_turns : goal.returns-in-Some-clause-serves_turns
returns-in-Some-clause-serves_turns g c = at_end _ _ g.met.W.Watchers.more _ _ _ _ _ _ _ _ _ _ _ c.turns.invariant.so_far c.in-Some.ended c.in-Some.ensures.makes_one_turn c.in-Some.ensures.counts_faults c.in-Some.ensures.this_stream_alone

pub returns-in-Some-clause-takes_on : goal.returns-in-Some-clause-takes_on
returns-in-Some-clause-takes_on g c = last_answered g.M.Machine.takes g.met.M.Machine.takes_fewer c.args.machine.now _ _ _ c.turns.invariant.below c.turns.invariant.room c.in-Some.ensures.takes_one_fewer
