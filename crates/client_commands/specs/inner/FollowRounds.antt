-- What one round of following did.
use Rattle.std.specs.Prelude.{Option, None, Some}
use Rattle.client_follower.specs.FollowerStates.{FollowerState}
use Rattle.client_commands.specs.declared.command_end.CommandEnd.{CommandEnd}
use Rattle.client_commands.specs.CommandEnds.{CallStreams}
use Rattle.client_commands.specs.FollowCommand.{EndsInRound, MakesOneRound}

-- what a round did: none where the command continues
abbrev pub MakesRound : FollowerState → FollowerState → Option CommandEnd
    → CallStreams → CallStreams → Type 0
MakesRound f f' None old new = MakesOneRound f f' old new
MakesRound f f' (Some ended) old new = EndsInRound f f' ended old new
