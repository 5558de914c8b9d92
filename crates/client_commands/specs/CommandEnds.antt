-- What a command did that makes one call, by how it ended. The project's own.
use Rattle.std.specs.Prelude.{◌≡◌, ℕ, List, Ok, Err}
use Rattle.xcap_io.specs.StreamStates.{StreamState}
use Rattle.xcap_client.specs.Asks.{get_ask, delete_ask}
use Rattle.xcap_client.specs.declared.request.Ask.{Ask}
use Rattle.xcap_client.specs.declared.response.Response.{Response}
use Rattle.client_commands.specs.OutputLines.{line_of_status}
use Rattle.client_commands.specs.OutputBytes.{WritesAllBytes, WritesSomeBytes}
use Rattle.xcap_client.specs.Calls.{MakesCall}
use Rattle.xcap_client.specs.declared.client_fault.ClientFault.{ClientFault}
use Rattle.client_follower.specs.FollowerFaults.{fault_of_client}
use Rattle.client_commands.specs.declared.command_end.CommandEnd.{CommandEnd}
use Rattle.client_commands.specs.declared.command_end.CommandEnd.TheVariants.{Done, OutputFailed}
use Rattle.client_commands.specs.declared.command_end.CommandEnd.TheVariants.{Failed, OutOfMemory}
use Rattle.client_commands.specs.declared.requester.Requester.{Requester}

-- The peer and the output of a command, at one moment.
pub record CallStreams : Type 0 where
  pub peer : StreamState
  pub output : StreamState

-- One call of a command: what is requested under a root, and the text that is written about the
-- response.
pub record CommandCall : Type 0 where
  pub root : List ℕ
  pub ask : Ask
  pub text : Response → List ℕ

-- the call of `fetch`: a GET, and the body of the response
abbrev pub fetch_call : Requester → List ℕ → CommandCall
fetch_call requester path =
    record {
      root = requester.root;
      ask = get_ask requester.user path;
      text = λ response. response.body;
    }

-- the call of `delete`: a DELETE, and the status
abbrev pub delete_call : Requester → List ℕ → CommandCall
delete_call requester path =
    record {
      root = requester.root;
      ask = delete_ask requester.user path;
      text = λ response. line_of_status response.status;
    }

-- One call was made, its response was successful, and the output took this text about it, or a
-- part of the text where it failed; or the call failed, and nothing was written; or memory ran out
-- for the output after the call, and nothing was written.
abbrev pub MakesOneCall : CommandCall → CommandEnd → CallStreams → CallStreams → Type 0
MakesOneCall call Done old new =
    (response : Response) × MakesCall call.root call.ask old.peer new.peer (Ok response)
    × WritesAllBytes (call.text response) old.output new.output
MakesOneCall call OutputFailed old new =
    (response : Response) × MakesCall call.root call.ask old.peer new.peer (Ok response)
    × WritesSomeBytes (call.text response) old.output new.output
MakesOneCall call (Failed fault) old new =
    (given : ClientFault) × MakesCall call.root call.ask old.peer new.peer (Err given)
    × (fault ≡ fault_of_client given) × (new.output ≡ old.output)
MakesOneCall call OutOfMemory old new =
    (response : Response) × MakesCall call.root call.ask old.peer new.peer (Ok response)
    × (new.output ≡ old.output)
MakesOneCall call _ old new = ⊥
