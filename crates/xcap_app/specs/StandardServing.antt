-- What `serve` does by RFC 4825 and 4826 alone, whatever this server's own addresses are answered.
-- What it prints, and how it ends, is in `ServeCommand`.
use Rattle.std.specs.Prelude.{◌≡◌, List}
use Rattle.store_core.specs.State.{State, first_state}
use Rattle.xcap_machine.specs.Machine.{StandardStep}
use Rattle.edit_ops.specs.declared.edit.Edit.{Edit}
use Rattle.xcap_io.specs.Connections.{ListenFailed, with_listening_address}
use Rattle.http_serve.specs.ServedPorts.{ServesPort}
use Rattle.http_serve.specs.ReplyBytes.{StepsInBytes}
use Rattle.http_serve.specs.declared.accept_loop.ServeSummary.{ServeSummary}
use Rattle.xcap_app.specs.RunStates.{ServiceState}
use Rattle.xcap_app.specs.ServeCommand.{ServiceArguments}
use Rattle.xcap_app.specs.declared.exit.Exit.{Exit}
use Rattle.xcap_app.specs.declared.exit.Exit.TheVariants.{NetworkFailed, OutOfMemory}

-- W is the type of the watchers, and `Keeps` relates them before and after such changes.
module _ {W : Type 0} (Keeps : List Edit → W → W → Type 0) where
  -- What was served, where the command ended so.
  pub data ServesByStandards (arguments : ServiceArguments) (exit : Exit)
      (old new : ServiceState W) : Type 0 where
    -- The port listens at the address, and the connections that came were served, at most `count`,
    -- by the machine of the standards, from the state without documents whose next number is 1 on;
    -- the watchers were notified of the changes.
    serves_port : (served : ServeSummary) (state : State)
        → ServesPort (StepsInBytes (StandardStep arguments.root)) Keeps
        (record { most = arguments.count; served = served })
        (record {
          machine = first_state 1;
          stream = with_listening_address old.port arguments.address;
          watchers = old.watchers;
        })
        (record { machine = state; stream = new.port; watchers = new.watchers })
        → ServesByStandards arguments exit old new
    -- the port doesn't listen
    has_no_port : exit ≡ NetworkFailed → ListenFailed old.port new.port
        → new.watchers ≡ old.watchers → ServesByStandards arguments exit old new
    -- memory ran out before
    has_no_memory : exit ≡ OutOfMemory → new ≡ old → ServesByStandards arguments exit old new
