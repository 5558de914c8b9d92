use Rattle.std.proofs.Common.{◌-◌, ◌≤◌}
use Rattle.client_commands.specs.FollowCommand.{MakesRounds}
use Rattle.client_commands.proofs.follow_command.follow_rounds.Given as goal

abbrev pub invariant-rounds : goal.invariant-rounds
invariant-rounds g l = record {
  within : l.made ≤ l.rounds;
  rounds_made : MakesRounds l.made l.fn.follower l.follower (record { peer = g.C.Line.state l.fn.peer; output = g.O.Line.state l.fn.output }) (record { peer = g.C.Line.state l.peer; output = g.O.Line.state l.output });
}

abbrev pub decreases-rounds : goal.decreases-rounds
decreases-rounds g l = l.rounds - l.made
