-- What `serve` does, by how it ends. The machine follows RFC 4825; the command is the
-- project's own.
use Rattle.std.specs.Prelude.{◌≡◌, ℕ, ◌⊎◌, List, ◌++◌, codes, decimal}
use Rattle.store_core.specs.ValidStates.{IsValidState}
use Rattle.store_core.specs.State.{State, first_state}
use Rattle.xcap_machine.specs.Machine.{ValidStep}
use Rattle.edit_ops.specs.declared.edit.Edit.{Edit}
use Rattle.xcap_io.specs.Connections.{ListenFailed, with_listening_address}
use Rattle.http_serve.specs.ServedPorts.{ServesPort}
use Rattle.http_serve.specs.ReplyBytes.{StepsInBytes}
use Rattle.http_serve.specs.declared.accept_loop.ServeSummary.{ServeSummary}
use Rattle.http_serve.specs.declared.accept_loop.StopReason.{StopReason}
use Rattle.http_serve.specs.declared.accept_loop.StopReason.TheVariants.{Count, NoMore, PortFailed}
use Rattle.client_commands.specs.OutputBytes.{WritesAllBytes, WritesSomeBytes}
use Rattle.xcap_app.specs.RunStates.{ServeState, ServiceState, serve_service_state}
use Rattle.xcap_app.specs.declared.exit.Exit.{Exit}
use Rattle.xcap_app.specs.declared.exit.Exit.TheVariants.{Done, OutputFailed, NetworkFailed}
use Rattle.xcap_app.specs.declared.exit.Exit.TheVariants.{OutOfMemory}

-- the line about the number of connections
abbrev pub served_line : ℕ → List ℕ
served_line connections = codes "served " ++ (decimal connections ++ codes "\n")

-- The arguments of `serve` and `keep`: the address, the root, and how many connections are served
-- at most.
pub record ServiceArguments : Type 0 where
  pub address : List ℕ
  pub root : List ℕ
  pub count : ℕ

-- no further connection was wanted, or none will come
abbrev pub IsCompleteStop : StopReason → Type 0
IsCompleteStop Count = Unit {0}
IsCompleteStop NoMore = Unit {0}
IsCompleteStop PortFailed = ⊥

-- W is the type of the watchers, and `Keeps` relates them before and after such changes.
module _ {W : Type 0} (Keeps : List Edit → W → W → Type 0) where
  -- The port listens at the address, and the connections that came were served, at most `count`,
  -- by the machine of this root from the state without documents whose next number is 1 on,
  -- through valid states, with subscribers kept up to date by the replies to feeds; the watchers
  -- were notified of the changes.
  pub record ServesAddress (arguments : ServiceArguments) (served : ServeSummary)
      (old new : ServiceState W) : Type 0 where
    pub state : State
    pub kept : IsValidState state
    pub serves : ServesPort (StepsInBytes (ValidStep arguments.root)) Keeps
        (record { most = arguments.count; served = served })
        (record {
          machine = first_state 1;
          stream = with_listening_address old.port arguments.address;
          watchers = old.watchers;
        })
        (record { machine = state; stream = new.port; watchers = new.watchers })

  -- All connections were served, and their number was written, or a part of it where the output
  -- failed; or the port doesn't listen or failed to begin a connection, and nothing was written;
  -- or memory ran out, and nothing was done.
  abbrev pub ServesCommand : ServiceArguments → Exit → ServeState W → ServeState W → Type 0
  ServesCommand arguments Done old new =
      (served : ServeSummary) × ServesAddress arguments served (serve_service_state old)
      (serve_service_state new)
      × IsCompleteStop served.stop
      × WritesAllBytes (served_line served.connections) old.output new.output
  ServesCommand arguments OutputFailed old new =
      (served : ServeSummary) × ServesAddress arguments served (serve_service_state old)
      (serve_service_state new)
      × IsCompleteStop served.stop
      × WritesSomeBytes (served_line served.connections) old.output new.output
  ServesCommand arguments NetworkFailed old new =
      ((ListenFailed old.port new.port × (new.watchers ≡ old.watchers))
      ⊎ ((served : ServeSummary) × ServesAddress arguments served (serve_service_state old)
      (serve_service_state new)
      × (served.stop ≡ PortFailed)))
      × (new.output ≡ old.output)
  ServesCommand arguments OutOfMemory old new = new ≡ old
  ServesCommand arguments _ old new = ⊥
