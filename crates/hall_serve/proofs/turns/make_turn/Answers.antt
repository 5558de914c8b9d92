use Rattle.std.proofs.Common.{None, sym, ◌∙◌}
use Rattle.http_serve.specs.ReplyBytes.{StepsInBytes}
use Rattle.hall_serve.specs.Seats.{requests_left}
use Rattle.hall_serve.proofs.TurnOutcomes.{place_within}
use Rattle.hall_serve.proofs.TurnResults.{counts_offered, place_offered, failure_done, knock_done, knock_same_number, late_done, late_open, none_more, over_done, place_found, quiet_done, ready_begins_none, ready_done, ready_matches, ready_open, ready_same_number, same_number_at, takes_knock, takes_late, takes_ready}
use Rattle.hall_serve.proofs.turns.make_turn.Goals as goal

pub serve_ready-requires-clause-open : goal.serve_ready-requires-clause-open
serve_ready-requires-clause-open g c = ready_open (g.H.Hall.state c.args.hall.now) (g.H.Hall.state c.wait.new.self) c.is_some.result c.args.seats.now c.requires.seats_match c.in-Ok-Ready.id (rw c.in-Ok-Ready.field-0-is at c.in-Ok-Ready.ensures.truthful) (rw c.in-Ok-Ready.field-0-is at c.in-Ok-Ready.ensures.counts_wait)

pub serve_ready-requires-clause-seats_match : goal.serve_ready-requires-clause-seats_match
serve_ready-requires-clause-seats_match g c = ready_matches (g.H.Hall.state c.args.hall.now) (g.H.Hall.state c.wait.new.self) c.is_some.result c.args.seats.now c.requires.seats_match c.in-Ok-Ready.id (rw c.in-Ok-Ready.field-0-is at c.in-Ok-Ready.ensures.truthful) (rw c.in-Ok-Ready.field-0-is at c.in-Ok-Ready.ensures.counts_wait)

pub close_connection-requires-clause-open : goal.close_connection-requires-clause-open
close_connection-requires-clause-open g c = late_open (g.H.Hall.state c.args.hall.now) (g.H.Hall.state c.wait.new.self) c.is_some.result c.args.seats.now c.requires.seats_match c.in-Ok-Late.id (rw c.in-Ok-Late.field-0-is at c.in-Ok-Late.ensures.truthful) (rw c.in-Ok-Late.field-0-is at c.in-Ok-Late.ensures.counts_wait)

pub close_connection-requires-clause-within : goal.close_connection-requires-clause-within
close_connection-requires-clause-within g c = place_within (g.H.Hall.state c.args.hall.now) c.args.seats.now c.in-Ok-Late.id c.requires.seats_match (rw c.in-Ok-Late.field-0-is at c.in-Ok-Late.ensures.truthful)

pub accept_next-requires : goal.accept_next-requires
accept_next-requires g c = let f = place_found c.args.seats.now c.place_for_next-free.result (sym c.is_some.ensures ∙ (rw c.in-Ok-Knock.field-0-is at c.in-Ok-Knock.ensures.truthful)) c.place_for_next-free.ensures.is_free in record { within = (f.place, f.is, f.within) }

pub returns-in-Ok-Quiet-clause-seats_match : goal.returns-in-Ok-Quiet-clause-seats_match
returns-in-Ok-Quiet-clause-seats_match g c = (quiet_done (StepsInBytes g.M.Machine.steps) g.W.Watchers.keeps c.is_some.result (g.H.Hall.state c.args.hall.now) c.args.seats.now c.requires.seats_match c.args.machine.now c.args.watchers.now (g.met.W.Watchers.none _) _ (rw c.in-Ok-Quiet.field-0-is at c.in-Ok-Quiet.ensures.counts_wait)).seats_match

pub returns-in-Ok-Quiet-clause-serves_on : goal.returns-in-Ok-Quiet-clause-serves_on
returns-in-Ok-Quiet-clause-serves_on g c = (quiet_done (StepsInBytes g.M.Machine.steps) g.W.Watchers.keeps c.is_some.result (g.H.Hall.state c.args.hall.now) c.args.seats.now c.requires.seats_match c.args.machine.now c.args.watchers.now (g.met.W.Watchers.none _) _ (rw c.in-Ok-Quiet.field-0-is at c.in-Ok-Quiet.ensures.counts_wait)).serves_on

pub returns-in-Ok-Quiet-clause-notified_first : goal.returns-in-Ok-Quiet-clause-notified_first
returns-in-Ok-Quiet-clause-notified_first g c = (quiet_done (StepsInBytes g.M.Machine.steps) g.W.Watchers.keeps c.is_some.result (g.H.Hall.state c.args.hall.now) c.args.seats.now c.requires.seats_match c.args.machine.now c.args.watchers.now (g.met.W.Watchers.none _) _ (rw c.in-Ok-Quiet.field-0-is at c.in-Ok-Quiet.ensures.counts_wait)).notified_first

pub returns-in-Ok-Quiet-clause-in_order : goal.returns-in-Ok-Quiet-clause-in_order
returns-in-Ok-Quiet-clause-in_order g c = (quiet_done (StepsInBytes g.M.Machine.steps) g.W.Watchers.keeps c.is_some.result (g.H.Hall.state c.args.hall.now) c.args.seats.now c.requires.seats_match c.args.machine.now c.args.watchers.now (g.met.W.Watchers.none _) _ (rw c.in-Ok-Quiet.field-0-is at c.in-Ok-Quiet.ensures.counts_wait)).in_order

pub returns-in-Ok-Quiet-clause-counts : goal.returns-in-Ok-Quiet-clause-counts
returns-in-Ok-Quiet-clause-counts g c = counts_offered _ c.is_some.result c.args.takes_more c.args.seats.now _ _ (c.is_some.ensures ∙ place_offered c.args.takes_more c.place_for_next-free.result c.args.seats.now c.place_for_next-free.ensures.first) (quiet_done (StepsInBytes g.M.Machine.steps) g.W.Watchers.keeps c.is_some.result (g.H.Hall.state c.args.hall.now) c.args.seats.now c.requires.seats_match c.args.machine.now c.args.watchers.now (g.met.W.Watchers.none _) _ (rw c.in-Ok-Quiet.field-0-is at c.in-Ok-Quiet.ensures.counts_wait)).counts

pub returns-in-Ok-Quiet-clause-takes_on : goal.returns-in-Ok-Quiet-clause-takes_on
returns-in-Ok-Quiet-clause-takes_on g c = none_more g.M.Machine.takes g.met.M.Machine.takes_fewer (requests_left c.args.seats.now) c.args.machine.now

pub returns-in-Ok-Over-clause-seats_match : goal.returns-in-Ok-Over-clause-seats_match
returns-in-Ok-Over-clause-seats_match g c = (over_done (StepsInBytes g.M.Machine.steps) g.W.Watchers.keeps c.is_some.result (g.H.Hall.state c.args.hall.now) c.args.seats.now c.requires.seats_match c.args.machine.now c.args.watchers.now (g.met.W.Watchers.none _) _ (rw c.in-Ok-Over.field-0-is at c.in-Ok-Over.ensures.counts_wait) (rw c.in-Ok-Over.field-0-is at c.in-Ok-Over.ensures.truthful)).seats_match

pub returns-in-Ok-Over-clause-serves_on : goal.returns-in-Ok-Over-clause-serves_on
returns-in-Ok-Over-clause-serves_on g c = (over_done (StepsInBytes g.M.Machine.steps) g.W.Watchers.keeps c.is_some.result (g.H.Hall.state c.args.hall.now) c.args.seats.now c.requires.seats_match c.args.machine.now c.args.watchers.now (g.met.W.Watchers.none _) _ (rw c.in-Ok-Over.field-0-is at c.in-Ok-Over.ensures.counts_wait) (rw c.in-Ok-Over.field-0-is at c.in-Ok-Over.ensures.truthful)).serves_on

pub returns-in-Ok-Over-clause-notified_first : goal.returns-in-Ok-Over-clause-notified_first
returns-in-Ok-Over-clause-notified_first g c = (over_done (StepsInBytes g.M.Machine.steps) g.W.Watchers.keeps c.is_some.result (g.H.Hall.state c.args.hall.now) c.args.seats.now c.requires.seats_match c.args.machine.now c.args.watchers.now (g.met.W.Watchers.none _) _ (rw c.in-Ok-Over.field-0-is at c.in-Ok-Over.ensures.counts_wait) (rw c.in-Ok-Over.field-0-is at c.in-Ok-Over.ensures.truthful)).notified_first

pub returns-in-Ok-Over-clause-in_order : goal.returns-in-Ok-Over-clause-in_order
returns-in-Ok-Over-clause-in_order g c = (over_done (StepsInBytes g.M.Machine.steps) g.W.Watchers.keeps c.is_some.result (g.H.Hall.state c.args.hall.now) c.args.seats.now c.requires.seats_match c.args.machine.now c.args.watchers.now (g.met.W.Watchers.none _) _ (rw c.in-Ok-Over.field-0-is at c.in-Ok-Over.ensures.counts_wait) (rw c.in-Ok-Over.field-0-is at c.in-Ok-Over.ensures.truthful)).in_order

pub returns-in-Ok-Over-clause-counts : goal.returns-in-Ok-Over-clause-counts
returns-in-Ok-Over-clause-counts g c = counts_offered _ c.is_some.result c.args.takes_more c.args.seats.now _ _ (c.is_some.ensures ∙ place_offered c.args.takes_more c.place_for_next-free.result c.args.seats.now c.place_for_next-free.ensures.first) (over_done (StepsInBytes g.M.Machine.steps) g.W.Watchers.keeps c.is_some.result (g.H.Hall.state c.args.hall.now) c.args.seats.now c.requires.seats_match c.args.machine.now c.args.watchers.now (g.met.W.Watchers.none _) _ (rw c.in-Ok-Over.field-0-is at c.in-Ok-Over.ensures.counts_wait) (rw c.in-Ok-Over.field-0-is at c.in-Ok-Over.ensures.truthful)).counts

pub returns-in-Ok-Over-clause-takes_on : goal.returns-in-Ok-Over-clause-takes_on
returns-in-Ok-Over-clause-takes_on g c = none_more g.M.Machine.takes g.met.M.Machine.takes_fewer (requests_left c.args.seats.now) c.args.machine.now

pub returns-in-Err-clause-seats_match : goal.returns-in-Err-clause-seats_match
returns-in-Err-clause-seats_match g c = (failure_done (StepsInBytes g.M.Machine.steps) g.W.Watchers.keeps c.is_some.result (g.H.Hall.state c.args.hall.now) c.args.seats.now c.requires.seats_match c.args.machine.now c.args.watchers.now (g.met.W.Watchers.none _) _ c.in-Err.ensures.counts_wait).seats_match

pub returns-in-Err-clause-serves_on : goal.returns-in-Err-clause-serves_on
returns-in-Err-clause-serves_on g c = (failure_done (StepsInBytes g.M.Machine.steps) g.W.Watchers.keeps c.is_some.result (g.H.Hall.state c.args.hall.now) c.args.seats.now c.requires.seats_match c.args.machine.now c.args.watchers.now (g.met.W.Watchers.none _) _ c.in-Err.ensures.counts_wait).serves_on

pub returns-in-Err-clause-notified_first : goal.returns-in-Err-clause-notified_first
returns-in-Err-clause-notified_first g c = (failure_done (StepsInBytes g.M.Machine.steps) g.W.Watchers.keeps c.is_some.result (g.H.Hall.state c.args.hall.now) c.args.seats.now c.requires.seats_match c.args.machine.now c.args.watchers.now (g.met.W.Watchers.none _) _ c.in-Err.ensures.counts_wait).notified_first

pub returns-in-Err-clause-in_order : goal.returns-in-Err-clause-in_order
returns-in-Err-clause-in_order g c = (failure_done (StepsInBytes g.M.Machine.steps) g.W.Watchers.keeps c.is_some.result (g.H.Hall.state c.args.hall.now) c.args.seats.now c.requires.seats_match c.args.machine.now c.args.watchers.now (g.met.W.Watchers.none _) _ c.in-Err.ensures.counts_wait).in_order

pub returns-in-Err-clause-counts : goal.returns-in-Err-clause-counts
returns-in-Err-clause-counts g c = counts_offered _ c.is_some.result c.args.takes_more c.args.seats.now _ _ (c.is_some.ensures ∙ place_offered c.args.takes_more c.place_for_next-free.result c.args.seats.now c.place_for_next-free.ensures.first) (failure_done (StepsInBytes g.M.Machine.steps) g.W.Watchers.keeps c.is_some.result (g.H.Hall.state c.args.hall.now) c.args.seats.now c.requires.seats_match c.args.machine.now c.args.watchers.now (g.met.W.Watchers.none _) _ c.in-Err.ensures.counts_wait).counts

pub returns-in-Err-clause-takes_on : goal.returns-in-Err-clause-takes_on
returns-in-Err-clause-takes_on g c = none_more g.M.Machine.takes g.met.M.Machine.takes_fewer (requests_left c.args.seats.now) c.args.machine.now

pub returns-in-Ok-Late-clause-seats_match : goal.returns-in-Ok-Late-clause-seats_match
returns-in-Ok-Late-clause-seats_match g c = (late_done (StepsInBytes g.M.Machine.steps) g.W.Watchers.keeps c.is_some.result (g.H.Hall.state c.args.hall.now) c.args.seats.now c.requires.seats_match c.args.machine.now c.args.watchers.now (g.met.W.Watchers.none _) c.in-Ok-Late.id (rw c.in-Ok-Late.field-0-is at c.in-Ok-Late.ensures.truthful) (g.H.Hall.state c.wait.new.self) _ (rw c.in-Ok-Late.field-0-is at c.in-Ok-Late.ensures.counts_wait) c.close_connection.ensures.closes _ c.close_connection.ensures.frees_place).seats_match

pub returns-in-Ok-Late-clause-serves_on : goal.returns-in-Ok-Late-clause-serves_on
returns-in-Ok-Late-clause-serves_on g c = (late_done (StepsInBytes g.M.Machine.steps) g.W.Watchers.keeps c.is_some.result (g.H.Hall.state c.args.hall.now) c.args.seats.now c.requires.seats_match c.args.machine.now c.args.watchers.now (g.met.W.Watchers.none _) c.in-Ok-Late.id (rw c.in-Ok-Late.field-0-is at c.in-Ok-Late.ensures.truthful) (g.H.Hall.state c.wait.new.self) _ (rw c.in-Ok-Late.field-0-is at c.in-Ok-Late.ensures.counts_wait) c.close_connection.ensures.closes _ c.close_connection.ensures.frees_place).serves_on

pub returns-in-Ok-Late-clause-notified_first : goal.returns-in-Ok-Late-clause-notified_first
returns-in-Ok-Late-clause-notified_first g c = (late_done (StepsInBytes g.M.Machine.steps) g.W.Watchers.keeps c.is_some.result (g.H.Hall.state c.args.hall.now) c.args.seats.now c.requires.seats_match c.args.machine.now c.args.watchers.now (g.met.W.Watchers.none _) c.in-Ok-Late.id (rw c.in-Ok-Late.field-0-is at c.in-Ok-Late.ensures.truthful) (g.H.Hall.state c.wait.new.self) _ (rw c.in-Ok-Late.field-0-is at c.in-Ok-Late.ensures.counts_wait) c.close_connection.ensures.closes _ c.close_connection.ensures.frees_place).notified_first

pub returns-in-Ok-Late-clause-in_order : goal.returns-in-Ok-Late-clause-in_order
returns-in-Ok-Late-clause-in_order g c = (late_done (StepsInBytes g.M.Machine.steps) g.W.Watchers.keeps c.is_some.result (g.H.Hall.state c.args.hall.now) c.args.seats.now c.requires.seats_match c.args.machine.now c.args.watchers.now (g.met.W.Watchers.none _) c.in-Ok-Late.id (rw c.in-Ok-Late.field-0-is at c.in-Ok-Late.ensures.truthful) (g.H.Hall.state c.wait.new.self) _ (rw c.in-Ok-Late.field-0-is at c.in-Ok-Late.ensures.counts_wait) c.close_connection.ensures.closes _ c.close_connection.ensures.frees_place).in_order

pub returns-in-Ok-Late-clause-counts : goal.returns-in-Ok-Late-clause-counts
returns-in-Ok-Late-clause-counts g c = counts_offered _ c.is_some.result c.args.takes_more c.args.seats.now _ _ (c.is_some.ensures ∙ place_offered c.args.takes_more c.place_for_next-free.result c.args.seats.now c.place_for_next-free.ensures.first) (late_done (StepsInBytes g.M.Machine.steps) g.W.Watchers.keeps c.is_some.result (g.H.Hall.state c.args.hall.now) c.args.seats.now c.requires.seats_match c.args.machine.now c.args.watchers.now (g.met.W.Watchers.none _) c.in-Ok-Late.id (rw c.in-Ok-Late.field-0-is at c.in-Ok-Late.ensures.truthful) (g.H.Hall.state c.wait.new.self) _ (rw c.in-Ok-Late.field-0-is at c.in-Ok-Late.ensures.counts_wait) c.close_connection.ensures.closes _ c.close_connection.ensures.frees_place).counts

pub returns-in-Ok-Late-clause-takes_on : goal.returns-in-Ok-Late-clause-takes_on
returns-in-Ok-Late-clause-takes_on g c = λ n takes. takes_late g.M.Machine.takes g.met.M.Machine.takes_fewer c.args.seats.now c.in-Ok-Late.id.place (place_within (g.H.Hall.state c.args.hall.now) c.args.seats.now c.in-Ok-Late.id c.requires.seats_match (rw c.in-Ok-Late.field-0-is at c.in-Ok-Late.ensures.truthful)) _ c.close_connection.ensures.frees_place c.args.machine.now n (none_more g.M.Machine.takes g.met.M.Machine.takes_fewer (requests_left c.args.seats.now) c.args.machine.now n takes)

pub returns-in-Ok-Ready-clause-seats_match : goal.returns-in-Ok-Ready-clause-seats_match
returns-in-Ok-Ready-clause-seats_match g c = (ready_done (StepsInBytes g.M.Machine.steps) g.W.Watchers.keeps c.is_some.result (g.H.Hall.state c.args.hall.now) c.args.seats.now c.requires.seats_match c.args.machine.now c.args.watchers.now (g.met.W.Watchers.none _) c.in-Ok-Ready.id (rw c.in-Ok-Ready.field-0-is at c.in-Ok-Ready.ensures.truthful) c.serve_ready.result (g.H.Hall.state c.wait.new.self) _ (rw c.in-Ok-Ready.field-0-is at c.in-Ok-Ready.ensures.counts_wait) _ _ _ c.serve_ready.ensures.serves).seats_match

pub returns-in-Ok-Ready-clause-serves_on : goal.returns-in-Ok-Ready-clause-serves_on
returns-in-Ok-Ready-clause-serves_on g c = (ready_done (StepsInBytes g.M.Machine.steps) g.W.Watchers.keeps c.is_some.result (g.H.Hall.state c.args.hall.now) c.args.seats.now c.requires.seats_match c.args.machine.now c.args.watchers.now (g.met.W.Watchers.none _) c.in-Ok-Ready.id (rw c.in-Ok-Ready.field-0-is at c.in-Ok-Ready.ensures.truthful) c.serve_ready.result (g.H.Hall.state c.wait.new.self) _ (rw c.in-Ok-Ready.field-0-is at c.in-Ok-Ready.ensures.counts_wait) _ _ _ c.serve_ready.ensures.serves).serves_on

pub returns-in-Ok-Ready-clause-notified_first : goal.returns-in-Ok-Ready-clause-notified_first
returns-in-Ok-Ready-clause-notified_first g c = (ready_done (StepsInBytes g.M.Machine.steps) g.W.Watchers.keeps c.is_some.result (g.H.Hall.state c.args.hall.now) c.args.seats.now c.requires.seats_match c.args.machine.now c.args.watchers.now (g.met.W.Watchers.none _) c.in-Ok-Ready.id (rw c.in-Ok-Ready.field-0-is at c.in-Ok-Ready.ensures.truthful) c.serve_ready.result (g.H.Hall.state c.wait.new.self) _ (rw c.in-Ok-Ready.field-0-is at c.in-Ok-Ready.ensures.counts_wait) _ _ _ c.serve_ready.ensures.serves).notified_first

pub returns-in-Ok-Ready-clause-in_order : goal.returns-in-Ok-Ready-clause-in_order
returns-in-Ok-Ready-clause-in_order g c = (ready_done (StepsInBytes g.M.Machine.steps) g.W.Watchers.keeps c.is_some.result (g.H.Hall.state c.args.hall.now) c.args.seats.now c.requires.seats_match c.args.machine.now c.args.watchers.now (g.met.W.Watchers.none _) c.in-Ok-Ready.id (rw c.in-Ok-Ready.field-0-is at c.in-Ok-Ready.ensures.truthful) c.serve_ready.result (g.H.Hall.state c.wait.new.self) _ (rw c.in-Ok-Ready.field-0-is at c.in-Ok-Ready.ensures.counts_wait) _ _ _ c.serve_ready.ensures.serves).in_order

pub returns-in-Ok-Ready-clause-counts : goal.returns-in-Ok-Ready-clause-counts
returns-in-Ok-Ready-clause-counts g c = counts_offered _ c.is_some.result c.args.takes_more c.args.seats.now _ _ (c.is_some.ensures ∙ place_offered c.args.takes_more c.place_for_next-free.result c.args.seats.now c.place_for_next-free.ensures.first) (ready_done (StepsInBytes g.M.Machine.steps) g.W.Watchers.keeps c.is_some.result (g.H.Hall.state c.args.hall.now) c.args.seats.now c.requires.seats_match c.args.machine.now c.args.watchers.now (g.met.W.Watchers.none _) c.in-Ok-Ready.id (rw c.in-Ok-Ready.field-0-is at c.in-Ok-Ready.ensures.truthful) c.serve_ready.result (g.H.Hall.state c.wait.new.self) _ (rw c.in-Ok-Ready.field-0-is at c.in-Ok-Ready.ensures.counts_wait) _ _ _ c.serve_ready.ensures.serves).counts

pub returns-in-Ok-Ready-clause-takes_on : goal.returns-in-Ok-Ready-clause-takes_on
returns-in-Ok-Ready-clause-takes_on g c = takes_ready g.M.Machine.takes g.met.M.Machine.takes_fewer (StepsInBytes g.M.Machine.steps) g.W.Watchers.keeps c.serve_ready.result c.in-Ok-Ready.id.place _ _ c.serve_ready.ensures.serves c.serve_ready.ensures.takes_on

pub returns-in-Ok-Knock-clause-seats_match : goal.returns-in-Ok-Knock-clause-seats_match
returns-in-Ok-Knock-clause-seats_match g c = let f = place_found c.args.seats.now c.place_for_next-free.result (sym c.is_some.ensures ∙ (rw c.in-Ok-Knock.field-0-is at c.in-Ok-Knock.ensures.truthful)) c.place_for_next-free.ensures.is_free in (knock_done (StepsInBytes g.M.Machine.steps) g.W.Watchers.keeps c.is_some.result (g.H.Hall.state c.args.hall.now) c.args.seats.now c.requires.seats_match c.args.machine.now c.args.watchers.now (g.met.W.Watchers.none _) c.place_for_next-free.result f.place f.is f.within f.empty c.accept_next.result (g.H.Hall.state c.wait.new.self) _ (rw c.in-Ok-Knock.field-0-is at c.in-Ok-Knock.ensures.counts_wait) _ c.accept_next.ensures.seats_next).seats_match

pub returns-in-Ok-Knock-clause-serves_on : goal.returns-in-Ok-Knock-clause-serves_on
returns-in-Ok-Knock-clause-serves_on g c = let f = place_found c.args.seats.now c.place_for_next-free.result (sym c.is_some.ensures ∙ (rw c.in-Ok-Knock.field-0-is at c.in-Ok-Knock.ensures.truthful)) c.place_for_next-free.ensures.is_free in (knock_done (StepsInBytes g.M.Machine.steps) g.W.Watchers.keeps c.is_some.result (g.H.Hall.state c.args.hall.now) c.args.seats.now c.requires.seats_match c.args.machine.now c.args.watchers.now (g.met.W.Watchers.none _) c.place_for_next-free.result f.place f.is f.within f.empty c.accept_next.result (g.H.Hall.state c.wait.new.self) _ (rw c.in-Ok-Knock.field-0-is at c.in-Ok-Knock.ensures.counts_wait) _ c.accept_next.ensures.seats_next).serves_on

pub returns-in-Ok-Knock-clause-notified_first : goal.returns-in-Ok-Knock-clause-notified_first
returns-in-Ok-Knock-clause-notified_first g c = let f = place_found c.args.seats.now c.place_for_next-free.result (sym c.is_some.ensures ∙ (rw c.in-Ok-Knock.field-0-is at c.in-Ok-Knock.ensures.truthful)) c.place_for_next-free.ensures.is_free in (knock_done (StepsInBytes g.M.Machine.steps) g.W.Watchers.keeps c.is_some.result (g.H.Hall.state c.args.hall.now) c.args.seats.now c.requires.seats_match c.args.machine.now c.args.watchers.now (g.met.W.Watchers.none _) c.place_for_next-free.result f.place f.is f.within f.empty c.accept_next.result (g.H.Hall.state c.wait.new.self) _ (rw c.in-Ok-Knock.field-0-is at c.in-Ok-Knock.ensures.counts_wait) _ c.accept_next.ensures.seats_next).notified_first

pub returns-in-Ok-Knock-clause-in_order : goal.returns-in-Ok-Knock-clause-in_order
returns-in-Ok-Knock-clause-in_order g c = let f = place_found c.args.seats.now c.place_for_next-free.result (sym c.is_some.ensures ∙ (rw c.in-Ok-Knock.field-0-is at c.in-Ok-Knock.ensures.truthful)) c.place_for_next-free.ensures.is_free in (knock_done (StepsInBytes g.M.Machine.steps) g.W.Watchers.keeps c.is_some.result (g.H.Hall.state c.args.hall.now) c.args.seats.now c.requires.seats_match c.args.machine.now c.args.watchers.now (g.met.W.Watchers.none _) c.place_for_next-free.result f.place f.is f.within f.empty c.accept_next.result (g.H.Hall.state c.wait.new.self) _ (rw c.in-Ok-Knock.field-0-is at c.in-Ok-Knock.ensures.counts_wait) _ c.accept_next.ensures.seats_next).in_order

pub returns-in-Ok-Knock-clause-counts : goal.returns-in-Ok-Knock-clause-counts
returns-in-Ok-Knock-clause-counts g c = let f = place_found c.args.seats.now c.place_for_next-free.result (sym c.is_some.ensures ∙ (rw c.in-Ok-Knock.field-0-is at c.in-Ok-Knock.ensures.truthful)) c.place_for_next-free.ensures.is_free in counts_offered _ c.is_some.result c.args.takes_more c.args.seats.now _ _ (c.is_some.ensures ∙ place_offered c.args.takes_more c.place_for_next-free.result c.args.seats.now c.place_for_next-free.ensures.first) (knock_done (StepsInBytes g.M.Machine.steps) g.W.Watchers.keeps c.is_some.result (g.H.Hall.state c.args.hall.now) c.args.seats.now c.requires.seats_match c.args.machine.now c.args.watchers.now (g.met.W.Watchers.none _) c.place_for_next-free.result f.place f.is f.within f.empty c.accept_next.result (g.H.Hall.state c.wait.new.self) _ (rw c.in-Ok-Knock.field-0-is at c.in-Ok-Knock.ensures.counts_wait) _ c.accept_next.ensures.seats_next).counts

pub returns-in-Ok-Knock-clause-takes_on : goal.returns-in-Ok-Knock-clause-takes_on
returns-in-Ok-Knock-clause-takes_on g c = let f = place_found c.args.seats.now c.place_for_next-free.result (sym c.is_some.ensures ∙ (rw c.in-Ok-Knock.field-0-is at c.in-Ok-Knock.ensures.truthful)) c.place_for_next-free.ensures.is_free in takes_knock g.M.Machine.takes g.met.M.Machine.takes_fewer c.args.seats.now c.place_for_next-free.result f.place f.is f.within f.empty c.accept_next.result (g.H.Hall.state c.wait.new.self) _ _ c.accept_next.ensures.seats_next c.args.machine.now

pub returns-in-Ok-Ready-clause-takes_more : goal.returns-in-Ok-Ready-clause-takes_more
returns-in-Ok-Ready-clause-takes_more g c = λ began. absurd (ready_begins_none (StepsInBytes g.M.Machine.steps) g.W.Watchers.keeps c.serve_ready.result c.in-Ok-Ready.id.place _ _ c.serve_ready.ensures.serves began)

pub returns-in-Ok-Late-clause-same_number : goal.returns-in-Ok-Late-clause-same_number
returns-in-Ok-Late-clause-same_number g c = same_number_at c.in-Ok-Late.id.place c.args.seats.now _ None c.close_connection.ensures.frees_place

pub returns-in-Ok-Ready-clause-same_number : goal.returns-in-Ok-Ready-clause-same_number
returns-in-Ok-Ready-clause-same_number g c = ready_same_number (StepsInBytes g.M.Machine.steps) g.W.Watchers.keeps c.serve_ready.result c.in-Ok-Ready.id.place _ _ c.serve_ready.ensures.serves

pub returns-in-Ok-Knock-clause-same_number : goal.returns-in-Ok-Knock-clause-same_number
returns-in-Ok-Knock-clause-same_number g c = knock_same_number c.place_for_next-free.result c.args.seats.now _ (g.H.Hall.state c.wait.new.self) _ c.accept_next.result c.accept_next.ensures.seats_next
