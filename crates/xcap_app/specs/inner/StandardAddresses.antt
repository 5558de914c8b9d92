-- What `serve` does on a port, with what this server's own addresses are answered as a parameter.
use Rattle.std.specs.Prelude.{List, ℕ, Option}
use Rattle.store_core.specs.State.{State, first_state}
use Rattle.xcap_machine.specs.Machine.{StandardStepWith}
use Rattle.reply_text.specs.ReplyHeads.{SentReply}
use Rattle.http_wire.specs.declared.request.Request.{Request}
use Rattle.edit_ops.specs.declared.edit.Edit.{Edit}
use Rattle.xcap_io.specs.Connections.{with_listening_address}
use Rattle.http_serve.specs.ServedPorts.{ServesPort}
use Rattle.http_serve.specs.ReplyBytes.{StepsInBytes}
use Rattle.http_serve.specs.declared.accept_loop.ServeSummary.{ServeSummary}
use Rattle.xcap_app.specs.RunStates.{ServiceState}
use Rattle.xcap_app.specs.ServeCommand.{ServiceArguments}

-- The port listens at the address, and the connections that came were served, at most `count`, by
-- the machine of the standards, from the state without documents whose next number is 1 to one
-- that the server `Has`; the watchers were notified of the changes. `OwnStep` says what this
-- server's own addresses are answered.
pub record ServesStandardAddress {W : Type 0}
    (OwnStep : List ℕ → State → Request → SentReply → State → Option Edit → Type 0)
    (Keeps : List Edit → W → W → Type 0) (arguments : ServiceArguments)
    (served : ServeSummary) (Has : State → Type 0) (old new : ServiceState W) : Type 0 where
  pub state : State
  pub has : Has state
  pub serves : ServesPort (StepsInBytes (StandardStepWith OwnStep arguments.root)) Keeps
      (record { most = arguments.count; served = served })
      (record {
        machine = first_state 1;
        stream = with_listening_address old.port arguments.address;
        watchers = old.watchers;
      })
      (record { machine = state; stream = new.port; watchers = new.watchers })
