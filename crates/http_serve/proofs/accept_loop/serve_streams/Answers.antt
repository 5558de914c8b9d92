use Rattle.std.proofs.Common.{ℕ, arith}
use Rattle.http_serve.proofs.Rooms.{line_served, room_at_first, room_for_line}
use Rattle.http_serve.proofs.Ports.{all_served, has_begun, has_ended, next_failed, no_connection, none_to_come, one_connection}
use Rattle.http_serve.proofs.accept_loop.serve_streams.Goals as goal

pub connections-init : goal.connections-init
connections-init g c = record { so_far = no_connection _ _ _ _ _ (g.met.W.Watchers.none _); within = omega arith; room = room_at_first g.M.Machine.takes g.met.M.Machine.takes_fewer _ _ c.requires.room_left }

pub connections-preserved : goal.connections-preserved
connections-preserved g c =
    let i = c.connections.invariant in
    record {
      so_far = one_connection _ _ g.met.W.Watchers.more _ _ _ _ _ _ _ _ _ _ _ _ _ i.so_far (has_begun ℕ (g.P.Line.state c.connections.port) (g.P.Line.state c.next.new.self) c.in-Ok.begun c.in-Ok.ensures.only_next c.if-not-begun.false) c.serve_stream-last.ensures.serves_stream;
      within = omega (arith, c.connections-test.true);
      room = line_served g.M.Machine.takes g.met.M.Machine.takes_fewer _ _ _ _ c.connections-test.true c.serve_stream-last.ensures.takes_on i.room;
    }

pub serve_stream-last-requires : goal.serve_stream-last-requires
serve_stream-last-requires g c = record { room_left = room_for_line g.M.Machine.takes g.met.M.Machine.takes_fewer _ _ _ c.connections-test.true c.connections.invariant.room }

pub returns-in-Err : goal.returns-in-Err
returns-in-Err g c = record { serves_port = next_failed _ _ _ _ _ _ _ _ _ _ _ c.connections.invariant.so_far _ c.connections-test.true c.in-Err.ensures.only_next }

pub returns-then-not-begun : goal.returns-then-not-begun
returns-then-not-begun g c = record { serves_port = none_to_come _ _ _ _ _ _ _ _ _ _ _ c.connections.invariant.so_far _ c.connections-test.true (has_ended ℕ (g.P.Line.state c.connections.port) (g.P.Line.state c.next.new.self) c.in-Ok.begun c.in-Ok.ensures.only_next c.if-not-begun.true) }

pub returns : goal.returns
returns g c = record { serves_port = all_served _ _ _ _ _ _ _ _ _ _ _ c.connections.invariant.so_far (omega (arith, c.connections-test.false, c.connections.invariant.within)) }
