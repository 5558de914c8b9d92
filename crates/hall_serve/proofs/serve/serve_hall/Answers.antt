use Rattle.std.proofs.Common.{◌≡◌, ◌+◌, ◌-◌, ◌*◌, ◌≤◌, length, refl, ap, ◌∙◌, arith}
use Rattle.std.proofs.lemmas.Bool.{lt-ltb, ltb-true}
use Rattle.http_serve.specs.ReplyBytes.{StepsInBytes}
use Rattle.http_serve.proofs.Rooms.{takes_less}
use Rattle.hall_serve.specs.Seats.{requests_left}
use Rattle.hall_serve.specs.ServedHalls.{begun_in, faults_in, memory_failures_in}
use Rattle.hall_serve.proofs.TurnSums.{count_more, no_count, no_turn, room_after, room_at_first, turn_made, turns_more}
use Rattle.hall_serve.proofs.serve.serve_hall.Goals.{in-Went, in-Began, in-NoMemory}
use Rattle.hall_serve.proofs.serve.serve_hall.Goals as goal

pub turns-init : goal.turns-init
turns-init g c = record {
  same_number = refl;
  seats_match = c.requires.seats_match;
  serves_on = no_turn (StepsInBytes g.M.Machine.steps) g.W.Watchers.keeps (record { machine = c.args.machine.now; hall = g.H.Hall.state c.args.hall.now; seats = c.args.seats.now; watchers = c.args.watchers.now }) (g.met.W.Watchers.none _);
  counts = no_count (g.H.Hall.state c.args.hall.now);
  chain = refl;
  within = omega arith;
  failures = omega arith;
  room = room_at_first g.M.Machine.takes c.args.machine.now _ _ c.requires.room_left;
}

pub make_turn-requires-clause-room_left : goal.make_turn-requires-clause-room_left
make_turn-requires-clause-room_left g c =
    takes_less g.M.Machine.takes g.met.M.Machine.takes_fewer c.turns.machine (requests_left c.turns.seats) (requests_left c.turns.seats + (c.args.count - c.turns.connections) * 1000) (omega arith) c.turns.invariant.room

pub turns-preserved : goal.turns-preserved
turns-preserved g c =
    let i = c.turns.invariant in
    let t = c.make_turn.result in
    let more : c.match-make_turn.connections ≡ c.turns.connections + begun_in t = elim c.match-make_turn.branch [
      | in-Went w ↦ let same = w.connections-is in let e = ap begun_in w.in-Went.is in omega (arith, same, e)
      | in-Began w ↦ let same = w.connections-is in let e = ap begun_in w.in-Began.is in omega (arith, same, e)
      | in-NoMemory w ↦ let same = w.connections-is in let e = ap begun_in w.in-NoMemory.is in omega (arith, same, e)
    ] in
    let fails : c.match-make_turn.memory_failures ≡ c.turns.memory_failures + memory_failures_in t = elim c.match-make_turn.branch [
      | in-Went w ↦ let same = w.memory_failures-is in let e = ap memory_failures_in w.in-Went.is in omega (arith, same, e)
      | in-Began w ↦ let same = w.memory_failures-is in let e = ap memory_failures_in w.in-Began.is in omega (arith, same, e)
      | in-NoMemory w ↦ let same = w.memory_failures-is in let e = ap memory_failures_in w.in-NoMemory.is in omega (arith, same, e)
    ] in
    let whole : faults_in t ≡ 0 = elim c.match-make_turn.branch [ in-Went w ↦ ap faults_in w.in-Went.is | in-Began w ↦ ap faults_in w.in-Began.is | in-NoMemory w ↦ ap faults_in w.in-NoMemory.is ] in
    let within : c.match-make_turn.connections ≤ c.args.count = elim c.match-make_turn.branch [
      | in-Went w ↦ let same = w.connections-is in let b = i.within in omega (arith, same, b)
      | in-Began w ↦ let same = w.connections-is in let below = ltb-true c.turns.connections c.args.count (c.make_turn.ensures.takes_more w.in-Began.is) in omega (arith, same, below)
      | in-NoMemory w ↦ let same = w.connections-is in let b = i.within in omega (arith, same, b)
    ] in
    record {
      same_number = c.make_turn.ensures.same_number ∙ i.same_number;
      seats_match = c.make_turn.ensures.seats_match;
      serves_on = turns_more (StepsInBytes g.M.Machine.steps) g.W.Watchers.keeps g.met.W.Watchers.more c.turns.memory_failures t c.match-make_turn.memory_failures fails _ _ _ i.serves_on c.make_turn.ensures.serves_on;
      counts = count_more c.turns.connections c.turns._turn c.match-make_turn.connections t whole more _ _ _ _ i.counts c.make_turn.ensures.counts;
      chain = turn_made g.W.Watchers.keeps (length (g.H.Hall.state c.args.hall.now).connections) c.args.count c.turns.connections c.turns._turn _ _ _ c.make_turn.result _ (ltb-true c.turns.connections c.args.count) (lt-ltb c.turns.connections c.args.count) c.turns.invariant.chain c.turns.invariant.counts.begun
          c.make_turn.ensures.same_number c.make_turn.ensures.seats_match c.make_turn.ensures.notified_first c.make_turn.ensures.in_order c.make_turn.ensures.counts;
      within = within;
      failures = elim c.match-make_turn.branch [
        | in-Went w ↦ let same = w.memory_failures-is in let b = i.failures in omega (arith, same, b)
        | in-Began w ↦ let same = w.memory_failures-is in let b = i.failures in omega (arith, same, b)
        | in-NoMemory w ↦ let same = w.memory_failures-is in let b = i.failures in omega (arith, same, b)
      ];
      room = room_after g.M.Machine.takes _ _ _ _ c.args.count c.turns.connections c.match-make_turn.connections (begun_in t) more within c.make_turn.ensures.takes_on i.room;
    }

pub returns-in-Over-clause-serves_on : goal.returns-in-Over-clause-serves_on
returns-in-Over-clause-serves_on g c =
    let fails : c.turns.memory_failures ≡ c.turns.memory_failures + memory_failures_in c.make_turn.result = let e = ap memory_failures_in c.in-Over.is in omega (arith, e) in
    turns_more (StepsInBytes g.M.Machine.steps) g.W.Watchers.keeps g.met.W.Watchers.more c.turns.memory_failures c.make_turn.result c.turns.memory_failures fails _ _ _ c.turns.invariant.serves_on c.make_turn.ensures.serves_on

pub returns-in-Over-clause-room_left : goal.returns-in-Over-clause-room_left
returns-in-Over-clause-room_left g c =
    let none : c.turns.connections ≡ c.turns.connections + begun_in c.make_turn.result = let e = ap begun_in c.in-Over.is in omega (arith, e) in
    room_after g.M.Machine.takes _ _ _ _ c.args.count c.turns.connections c.turns.connections (begun_in c.make_turn.result) none c.turns.invariant.within c.make_turn.ensures.takes_on c.turns.invariant.room

pub returns-in-HallFailed-clause-serves_on : goal.returns-in-HallFailed-clause-serves_on
returns-in-HallFailed-clause-serves_on g c =
    let fails : c.turns.memory_failures ≡ c.turns.memory_failures + memory_failures_in c.make_turn.result = let e = ap memory_failures_in c.in-HallFailed.is in omega (arith, e) in
    turns_more (StepsInBytes g.M.Machine.steps) g.W.Watchers.keeps g.met.W.Watchers.more c.turns.memory_failures c.make_turn.result c.turns.memory_failures fails _ _ _ c.turns.invariant.serves_on c.make_turn.ensures.serves_on

pub returns-in-HallFailed-clause-room_left : goal.returns-in-HallFailed-clause-room_left
returns-in-HallFailed-clause-room_left g c =
    let none : c.turns.connections ≡ c.turns.connections + begun_in c.make_turn.result = let e = ap begun_in c.in-HallFailed.is in omega (arith, e) in
    room_after g.M.Machine.takes _ _ _ _ c.args.count c.turns.connections c.turns.connections (begun_in c.make_turn.result) none c.turns.invariant.within c.make_turn.ensures.takes_on c.turns.invariant.room

pub returns-in-Over-clause-turns : goal.returns-in-Over-clause-turns
returns-in-Over-clause-turns g c = (
  c.turns._turn + 1,
  turn_made g.W.Watchers.keeps (length (g.H.Hall.state c.args.hall.now).connections) c.args.count c.turns.connections c.turns._turn _ _ _ c.make_turn.result _ (ltb-true c.turns.connections c.args.count) (lt-ltb c.turns.connections c.args.count) c.turns.invariant.chain c.turns.invariant.counts.begun
      c.make_turn.ensures.same_number c.make_turn.ensures.seats_match c.make_turn.ensures.notified_first c.make_turn.ensures.in_order c.make_turn.ensures.counts,
)

pub returns-in-HallFailed-clause-turns : goal.returns-in-HallFailed-clause-turns
returns-in-HallFailed-clause-turns g c = (
  c.turns._turn + 1,
  turn_made g.W.Watchers.keeps (length (g.H.Hall.state c.args.hall.now).connections) c.args.count c.turns.connections c.turns._turn _ _ _ c.make_turn.result _ (ltb-true c.turns.connections c.args.count) (lt-ltb c.turns.connections c.args.count) c.turns.invariant.chain c.turns.invariant.counts.begun
      c.make_turn.ensures.same_number c.make_turn.ensures.seats_match c.make_turn.ensures.notified_first c.make_turn.ensures.in_order c.make_turn.ensures.counts,
)
