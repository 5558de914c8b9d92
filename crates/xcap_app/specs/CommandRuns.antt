-- What a run of the program did, by the command that its words spell and by how it ended. The
-- project's own.
use Rattle.std.specs.Prelude.{◌≡◌, ℕ, List, encode_utf8_all, ◌⊎◌}
use Rattle.edit_ops.specs.declared.edit.Edit.{Edit}
use Rattle.client_commands.specs.CommandEnds.{delete_call, fetch_call}
use Rattle.xcap_app.specs.ClientCommands.{RunsCall, RunsFollow, RunsPut}
use Rattle.xcap_app.specs.CheckCommand.{ChecksCommand}
use Rattle.xcap_app.specs.HostCommand.{HostArguments, HostsCommand}
use Rattle.xcap_app.specs.KeepCommand.{KeepsCommand}
use Rattle.xcap_app.specs.ReplayCommand.{ReplaysCommand}
use Rattle.xcap_app.specs.RunStates.{RunState, call_part, io_part, keep_part, put_part, replay_part}
use Rattle.xcap_app.specs.RunStates.{host_part, serve_part}
use Rattle.xcap_app.specs.SampleCommand.{RunsSample}
use Rattle.xcap_app.specs.declared.command.Command.TheVariants.{Replay, Serve, Keep, Check, Sample}
use Rattle.xcap_app.specs.declared.command.Command.TheVariants.{Fetch, Put, Delete, Follow}
use Rattle.xcap_app.specs.declared.command.Command.TheVariants.{Host}
use Rattle.xcap_app.specs.declared.command_line.CommandLine.{CommandLine}
use Rattle.xcap_app.specs.declared.command_line.CommandLine.TheVariants.{Runs, BadHost, NoCommand}
use Rattle.xcap_app.specs.declared.exit.Exit.{Exit}
use Rattle.xcap_app.specs.declared.exit.Exit.TheVariants.{Usage, BadHostWords, OutOfMemory}
use Rattle.xcap_app.specs.declared.host_options.HostOptions.{HostOptions}
use Rattle.xcap_app.specs.ServeCommand.{ServesCommand, ServiceArguments}

-- the arguments of a service, whose address is spelled by these characters
abbrev pub service_arguments : List ℕ → List ℕ → ℕ → ServiceArguments
service_arguments address root count =
    record { address = encode_utf8_all address; root = root; count = count }

-- the arguments of `host`, likewise, with the number of its first change
abbrev pub host_arguments : List ℕ → List ℕ → HostOptions → ℕ → HostArguments
host_arguments address root options first =
    record { address = encode_utf8_all address; root = root; options = options; first = first }

-- W is the type of the watchers, and `Keeps` relates them before and after such changes.
-- `first` is the number of the first change of `host`, which the clock gave.
module _ {W : Type 0} (Keeps : List Edit → W → W → Type 0) (first : ℕ) where
  -- What was done, and that all else is unchanged. Where the words spell no command, memory may
  -- run out before that is known.
  abbrev pub RunsCommand : CommandLine → Exit → RunState W → RunState W → Type 0
  RunsCommand NoCommand exit old new = ((exit ≡ Usage) ⊎ (exit ≡ OutOfMemory)) × (new ≡ old)
  RunsCommand (BadHost fault) exit old new =
      ((exit ≡ BadHostWords fault) ⊎ (exit ≡ OutOfMemory)) × (new ≡ old)
  RunsCommand (Runs (Replay root)) exit old new =
      ReplaysCommand Keeps root exit (replay_part old) (replay_part new)
      × (new.port ≡ old.port) × (new.peer ≡ old.peer)
      × (new.hall ≡ old.hall) × (new.errors ≡ old.errors)
  RunsCommand (Runs (Serve address root count)) exit old new =
      ServesCommand Keeps (service_arguments address root count) exit (serve_part old)
      (serve_part new)
      × (new.input ≡ old.input) × (new.peer ≡ old.peer)
      × (new.hall ≡ old.hall) × (new.errors ≡ old.errors)
  RunsCommand (Runs (Keep address root count)) exit old new =
      KeepsCommand Keeps (service_arguments address root count) exit (keep_part old) (keep_part new)
      × (new.peer ≡ old.peer)
      × (new.hall ≡ old.hall) × (new.errors ≡ old.errors)
  RunsCommand (Runs (Host address root options)) exit old new =
      HostsCommand Keeps (host_arguments address root options first) exit (host_part old)
      (host_part new)
      × (new.port ≡ old.port) × (new.peer ≡ old.peer) × (new.input ≡ old.input)
      × (new.output ≡ old.output)
  RunsCommand (Runs (Check usage)) exit old new =
      ChecksCommand usage exit (io_part old) (io_part new)
      × (new.port ≡ old.port) × (new.peer ≡ old.peer) × (new.watchers ≡ old.watchers)
      × (new.hall ≡ old.hall) × (new.errors ≡ old.errors)
  RunsCommand (Runs (Sample requests)) exit old new =
      RunsSample requests exit old.output new.output
      × (new.port ≡ old.port) × (new.peer ≡ old.peer) × (new.input ≡ old.input)
      × (new.watchers ≡ old.watchers)
      × (new.hall ≡ old.hall) × (new.errors ≡ old.errors)
  RunsCommand (Runs (Fetch requester path)) exit old new =
      RunsCall (fetch_call requester path) exit (call_part old) (call_part new)
      × (new.port ≡ old.port) × (new.input ≡ old.input) × (new.watchers ≡ old.watchers)
      × (new.hall ≡ old.hall) × (new.errors ≡ old.errors)
  RunsCommand (Runs (Put requester path media)) exit old new =
      RunsPut (record { requester = requester; path = path; media = media }) exit
      (put_part old) (put_part new)
      × (new.port ≡ old.port) × (new.watchers ≡ old.watchers)
      × (new.hall ≡ old.hall) × (new.errors ≡ old.errors)
  RunsCommand (Runs (Delete requester path)) exit old new =
      RunsCall (delete_call requester path) exit (call_part old) (call_part new)
      × (new.port ≡ old.port) × (new.input ≡ old.input) × (new.watchers ≡ old.watchers)
      × (new.hall ≡ old.hall) × (new.errors ≡ old.errors)
  RunsCommand (Runs (Follow requester document rounds)) exit old new =
      RunsFollow (record { requester = requester; document = document; rounds = rounds }) exit
      (call_part old) (call_part new)
      × (new.port ≡ old.port) × (new.input ≡ old.input) × (new.watchers ≡ old.watchers)
      × (new.hall ≡ old.hall) × (new.errors ≡ old.errors)
