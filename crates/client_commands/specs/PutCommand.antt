-- What the command that puts its input did, by how it ended. The project's own.
use Rattle.std.specs.Prelude.{◌≡◌, ◌⊎◌, ℕ, ◌+◌, ◌≤◌, List, length}
use Rattle.xcap_io.specs.StreamStates.{StreamState}
use Rattle.http_wire.specs.declared.limits.TheConstants.{MAX_BODY_BYTES}
use Rattle.client_commands.specs.InputTexts.{GaveBytesAndFailed, GaveText, GaveBytes}
use Rattle.xcap_client.specs.Asks.{put_ask}
use Rattle.client_commands.specs.CommandEnds.{CallStreams, CommandCall, MakesOneCall}
use Rattle.client_commands.specs.OutputLines.{put_line}
use Rattle.client_commands.specs.declared.command_end.CommandEnd.{CommandEnd}
use Rattle.client_commands.specs.declared.command_end.CommandEnd.TheVariants.{InputFailed, TooLarge}
use Rattle.client_commands.specs.declared.command_end.CommandEnd.TheVariants.{OutOfMemory}
use Rattle.client_commands.specs.declared.requester.Requester.{Requester}

-- The peer, the input and the output of the command, at one moment.
pub record PutStreams : Type 0 where
  pub peer : StreamState
  pub input : StreamState
  pub output : StreamState

-- those that its call uses
abbrev pub call_streams : PutStreams → CallStreams
call_streams streams = record { peer = streams.peer; output = streams.output }

-- Who puts, at which path, and as which media type.
pub record PutOptions : Type 0 where
  pub requester : Requester
  pub path : List ℕ
  pub media : List ℕ

-- the call of `put`: a PUT of a text, and the status and the etag of the response
abbrev pub put_call : PutOptions → List ℕ → CommandCall
put_call options text = record {
  root = options.requester.root;
  ask = put_ask options.requester.user options.path options.media text;
  text = λ response. put_line response.status response.tag;
}

-- the input gave a text, which was put
abbrev pub PutsInputText : PutOptions → CommandEnd → PutStreams → PutStreams → Type 0
PutsInputText options ended old new =
    (text : List ℕ) × GaveText MAX_BODY_BYTES text old.input new.input
    × MakesOneCall (put_call options text) ended (call_streams old) (call_streams new)

-- no call was made, and nothing was written
abbrev pub AsksNothing : CallStreams → CallStreams → Type 0
AsksNothing old new = (new.peer ≡ old.peer) × (new.output ≡ old.output)

-- The input gave a text, which was put; or it failed, or has too many bytes, and no call was made.
abbrev pub PutsFromInput : PutOptions → CommandEnd → PutStreams → PutStreams → Type 0
PutsFromInput options InputFailed old new =
    ((front : List ℕ) × GaveBytesAndFailed front old.input new.input
    × (length front ≤ MAX_BODY_BYTES))
    × AsksNothing (call_streams old) (call_streams new)
PutsFromInput options TooLarge old new =
    ((front : List ℕ) × GaveBytes front old.input new.input × (length front ≡ MAX_BODY_BYTES + 1))
    × AsksNothing (call_streams old) (call_streams new)
PutsFromInput options OutOfMemory old new =
    ((new.input ≡ old.input) × AsksNothing (call_streams old) (call_streams new))
    ⊎ PutsInputText options OutOfMemory old new
PutsFromInput options ended old new = PutsInputText options ended old new
