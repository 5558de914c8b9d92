-- What the command that follows a document did, by how it ended. The project's own.
use Rattle.std.specs.Prelude.{◌≡◌, ℕ, zero, suc, ◌<◌, Ok, Err}
use Rattle.xcap_io.specs.StreamStates.{StreamState}
use Rattle.doc_names.specs.declared.doc_id.DocId.{DocId}
use Rattle.patch_rules.specs.Replay.{ReplicaContents}
use Rattle.client_commands.specs.CommandEnds.{CallStreams}
use Rattle.client_commands.specs.OutputBytes.{WritesAllBytes, WritesSomeBytes}
use Rattle.client_follower.specs.Rounds.{RunsRound}
use Rattle.client_follower.specs.Starts.{StartsFollower}
use Rattle.client_follower.specs.FollowerStates.{FollowedDocument, FollowerState}
use Rattle.client_follower.specs.declared.follower_fault.FollowerFault.{FollowerFault}
use Rattle.client_follower.specs.declared.feed_rounds.Round.{Round}
use Rattle.client_commands.specs.OutputLines.{replica_text, round_line}
use Rattle.client_commands.specs.declared.command_end.CommandEnd.{CommandEnd}
use Rattle.client_commands.specs.declared.command_end.CommandEnd.TheVariants.{Done, OutputFailed}
use Rattle.client_commands.specs.declared.command_end.CommandEnd.TheVariants.{Failed, OutOfMemory}
use Rattle.client_commands.specs.declared.requester.Requester.{Requester}

-- One round was made, and the output took its line.
pub record MakesOneRound (f f' : FollowerState) (old new : CallStreams) : Type 0 where
  pub round : Round
  pub rounds : RunsRound f f' old.peer new.peer (Ok round)
  pub written : WritesAllBytes (round_line f'.held) old.output new.output

-- `n` rounds were made, one after the other, and the output took their lines.
abbrev pub MakesRounds : ℕ → FollowerState → FollowerState → CallStreams → CallStreams → Type 0
MakesRounds zero f f' old new = (f' ≡ f) × (new ≡ old)
MakesRounds (suc n) f f' old new =
    (g : FollowerState) × (between : CallStreams) × MakesRounds n f g old between
    × MakesOneRound g f' between new

-- How one round can end the command: the round failed; or it succeeded, and the output took a part
-- of its line, or memory ran out for the line.
abbrev pub EndsInRound : FollowerState → FollowerState → CommandEnd → CallStreams → CallStreams
    → Type 0
EndsInRound f f' OutputFailed old new =
    (round : Round) × RunsRound f f' old.peer new.peer (Ok round)
    × WritesSomeBytes (round_line f'.held) old.output new.output
EndsInRound f f' (Failed fault) old new =
    RunsRound f f' old.peer new.peer (Err fault) × (new.output ≡ old.output)
EndsInRound f f' OutOfMemory old new =
    (round : Round) × RunsRound f f' old.peer new.peer (Ok round) × (new.output ≡ old.output)
EndsInRound f f' _ old new = ⊥

-- the document was written, if the replica has one; or a part of it; or memory ran out for it
abbrev pub WritesReplica : ReplicaContents → CommandEnd → StreamState → StreamState → Type 0
WritesReplica held Done output output' = WritesAllBytes (replica_text held) output output'
WritesReplica held OutputFailed output output' = WritesSomeBytes (replica_text held) output output'
WritesReplica held OutOfMemory output output' = output' ≡ output
WritesReplica held _ output output' = ⊥

-- A follower made all its rounds, and then the document was written; or one of them ended the
-- command, after those before it.
pub data FollowsRounds (count : ℕ) (f : FollowerState) (ended : CommandEnd)
    (old new : CallStreams) : Type 0 where
  follows_to_the_end : (f' : FollowerState) (written : StreamState)
      → MakesRounds count f f' old (record new { output = written })
      → WritesReplica f'.held ended written new.output → FollowsRounds count f ended old new
  stops_in_a_round : (n : ℕ) (g f' : FollowerState) (between : CallStreams) → n < count
      → MakesRounds n f g old between
      → EndsInRound g f' ended between new → FollowsRounds count f ended old new

-- Who follows which document, and for how many rounds.
pub record FollowOptions : Type 0 where
  pub requester : Requester
  pub doc : DocId
  pub rounds : ℕ

abbrev pub followed_document : FollowOptions → FollowedDocument
followed_document options =
    record { root = options.requester.root; user = options.requester.user; doc = options.doc }

-- The follower started, and continued; or it didn't start, and nothing was written.
pub data FollowsDocument (options : FollowOptions) (ended : CommandEnd)
    (old new : CallStreams) : Type 0 where
  starts : (f : FollowerState) (asked : StreamState)
      → StartsFollower (followed_document options) old.peer asked (Ok f)
      → FollowsRounds options.rounds f ended (record old { peer = asked }) new
      → FollowsDocument options ended old new
  fails_to_start : (fault : FollowerFault)
      → StartsFollower (followed_document options) old.peer new.peer (Err fault)
      → ended ≡ Failed fault → new.output ≡ old.output → FollowsDocument options ended old new
