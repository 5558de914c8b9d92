use Rattle.std.proofs.Common.{◌≡◌, Option, subst, arith}
use Rattle.client_commands.specs.CommandEnds.{CallStreams}
use Rattle.client_commands.specs.FollowCommand.{MakesOneRound, stops_in_a_round}
use Rattle.client_commands.specs.inner.FollowRounds.{MakesRound}
use Rattle.client_commands.specs.declared.command_end.CommandEnd.{CommandEnd}
use Rattle.patch_apply.specs.Views.{replica_view}
use Rattle.client_commands.proofs.Rounds.{followed_to_the_end, rounds_more}
use Rattle.client_commands.proofs.follow_command.follow_rounds.Goals as goal

pub returns-in-Some : goal.returns-in-Some
returns-in-Some g c = record {
  follows_on =
      stops_in_a_round c.rounds.made c.rounds.follower c.make_round.new.follower (record { peer = g.C.Line.state c.rounds.peer; output = g.O.Line.state c.rounds.output }) c.rounds-test.true c.rounds.invariant.rounds_made c.in-Some.ensures.makes_round;
}

pub rounds-preserved : goal.rounds-preserved
rounds-preserved g c = record {
  within = omega (arith, c.rounds-test.true);
  rounds_made =
      let first : CallStreams = record { peer = g.C.Line.state c.args.peer.now; output = g.O.Line.state c.args.output.now } in
      let old : CallStreams = record { peer = g.C.Line.state c.rounds.peer; output = g.O.Line.state c.rounds.output } in
      let new : CallStreams = record { peer = g.C.Line.state c.make_round.new.peer; output = g.O.Line.state c.make_round.new.output } in
      let round : MakesOneRound c.rounds.follower c.make_round.new.follower old new =
      subst (λ (r : Option CommandEnd). MakesRound c.rounds.follower c.make_round.new.follower r old new) c.in_default.is c.make_round.ensures.makes_round in
      rounds_more c.rounds.made c.args.follower.now c.rounds.follower c.make_round.new.follower first old new c.rounds.invariant.rounds_made round;
}

pub returns : goal.returns
returns g c = record {
  follows_on =
      let all : c.rounds.made ≡ c.args.rounds = omega (arith, c.rounds.invariant.within, c.rounds-test.false) in
      followed_to_the_end c.rounds.made c.args.rounds c.args.follower.now c.rounds.follower (replica_view c.replica.result.now.held) c.write_replica.result (record { peer = g.C.Line.state c.args.peer.now; output = g.O.Line.state c.args.output.now }) (record { peer = g.C.Line.state c.rounds.peer; output = g.O.Line.state c.write_replica.new.output }) (g.O.Line.state c.rounds.output)
      all c.replica.ensures.same_replica c.rounds.invariant.rounds_made c.write_replica.ensures.writes_copy;
}
