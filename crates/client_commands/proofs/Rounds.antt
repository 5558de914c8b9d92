-- Rounds, one after the other.
use Rattle.std.proofs.Common.{◌≡◌, ℕ, ◌+◌, List, Ok, refl, sym, subst, add-one}
use Rattle.xcap_io.specs.StreamStates.{StreamState}
use Rattle.client_commands.specs.CommandEnds.{CallStreams}
use Rattle.patch_rules.specs.Replay.{ReplicaContents}
use Rattle.client_commands.specs.OutputBytes.{WritesAllBytes, WritesSomeBytes}
use Rattle.client_follower.specs.Rounds.{RunsRound}
use Rattle.client_follower.specs.FollowerStates.{FollowerState}
use Rattle.client_follower.specs.declared.feed_rounds.Round.{Round}
use Rattle.client_commands.specs.inner.OutputEnds.{WritesOutput}
use Rattle.client_commands.specs.FollowCommand.{FollowsRounds, EndsInRound, MakesOneRound, MakesRounds, WritesReplica, follows_to_the_end}
use Rattle.client_commands.specs.OutputLines.{round_line}
use Rattle.client_commands.specs.declared.command_end.CommandEnd.{CommandEnd}
use Rattle.client_commands.specs.declared.command_end.CommandEnd.TheVariants.{Done, InputFailed, OutputFailed, TooLarge, Failed, OutOfMemory}

-- a round that succeeded, and its line
pub line_written : (f f' : FollowerState) (round : Round) (bytes : List ℕ) (old new : CallStreams) → RunsRound f f' old.peer new.peer (Ok round) → bytes ≡ round_line f'.held
    → WritesAllBytes bytes old.output new.output → MakesOneRound f f' old new
line_written f f' round bytes old new rounds is takes =
    record { round = round; rounds = rounds; written = subst (λ (b : List ℕ). WritesAllBytes b old.output new.output) is takes }

pub line_ends : (f f' : FollowerState) (round : Round) (bytes : List ℕ) (ended : CommandEnd) (old new : CallStreams) → RunsRound f f' old.peer new.peer (Ok round) → bytes ≡ round_line f'.held
    → WritesOutput bytes ended old.output new.output → (ended ≡ Done → ⊥) → EndsInRound f f' ended old new
line_ends f f' round bytes Done old new rounds is writes other = other refl
line_ends f f' round bytes InputFailed old new rounds is writes other = writes
line_ends f f' round bytes OutputFailed old new rounds is writes other =
    (round, rounds, subst (λ (b : List ℕ). WritesSomeBytes b old.output new.output) is writes)
line_ends f f' round bytes TooLarge old new rounds is writes other = writes
line_ends f f' round bytes (Failed fault) old new rounds is writes other = absurd writes
line_ends f f' round bytes OutOfMemory old new rounds is writes other = absurd writes

-- one more round
pub rounds_more : (n : ℕ) (f g f' : FollowerState) (old between new : CallStreams) → MakesRounds n f g old between → MakesOneRound g f' between new → MakesRounds (n + 1) f f' old new
rounds_more n f g f' old between new made round =
    subst (λ (k : ℕ). MakesRounds k f f' old new) (sym (add-one n)) (g, between, made, round)

-- all rounds were made, and the document was written
pub followed_to_the_end : (n count : ℕ) (f f' : FollowerState) (held : ReplicaContents) (ended : CommandEnd) (old new : CallStreams) (written : StreamState) → n ≡ count → held ≡ f'.held
    → MakesRounds n f f' old (record new { output = written }) → WritesReplica held ended written new.output → FollowsRounds count f ended old new
followed_to_the_end n count f f' held ended old new written all is made writes =
    follows_to_the_end f' written (subst (λ (k : ℕ). MakesRounds k f f' old (record new { output = written })) all made)
    (subst (λ (h : ReplicaContents). WritesReplica h ended written new.output) is writes)
