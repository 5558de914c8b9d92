-- What a run of the program uses, at one moment. The project's own.
use Rattle.halls.specs.HallState.{HallState}
use Rattle.xcap_io.specs.StreamStates.{StreamState}
use Rattle.client_commands.specs.CommandEnds.{CallStreams}
use Rattle.client_commands.specs.PutCommand.{PutStreams}

-- The input and the output.
pub record IoStreams : Type 0 where
  pub input : StreamState
  pub output : StreamState

-- A port, and the watchers, whose type is W.
pub record ServiceState (W : Type 0) : Type 0 where
  pub port : StreamState
  pub watchers : W

-- What `replay` uses.
pub record ReplayState (W : Type 0) : Type 0 where
  pub input : StreamState
  pub output : StreamState
  pub watchers : W

-- What `serve` uses.
pub record ServeState (W : Type 0) : Type 0 where
  pub port : StreamState
  pub output : StreamState
  pub watchers : W

-- What `keep` uses.
pub record KeepState (W : Type 0) : Type 0 where
  pub port : StreamState
  pub input : StreamState
  pub output : StreamState
  pub watchers : W

-- What `host` uses.
pub record HostState (W : Type 0) : Type 0 where
  pub hall : HallState
  pub errors : StreamState
  pub watchers : W

-- What any command may use.
pub record RunState (W : Type 0) : Type 0 where
  pub port : StreamState
  pub hall : HallState
  pub peer : StreamState
  pub input : StreamState
  pub output : StreamState
  pub errors : StreamState
  pub watchers : W

-- the part that serves connections
abbrev pub serve_service_state : {W : Type 0} → ServeState W → ServiceState W
serve_service_state state = record { port = state.port; watchers = state.watchers }

abbrev pub keep_service_state : {W : Type 0} → KeepState W → ServiceState W
keep_service_state state = record { port = state.port; watchers = state.watchers }

-- the old journal and the new one
abbrev pub keep_journals : {W : Type 0} → KeepState W → IoStreams
keep_journals state = record { input = state.input; output = state.output }

-- the parts that the commands use: `replay`
abbrev pub replay_part : {W : Type 0} → RunState W → ReplayState W
replay_part state = record { input = state.input; output = state.output; watchers = state.watchers }

-- `serve`
abbrev pub serve_part : {W : Type 0} → RunState W → ServeState W
serve_part state = record { port = state.port; output = state.output; watchers = state.watchers }

-- `keep`
abbrev pub keep_part : {W : Type 0} → RunState W → KeepState W
keep_part state = record {
  port = state.port;
  input = state.input;
  output = state.output;
  watchers = state.watchers;
}

-- `host`
abbrev pub host_part : {W : Type 0} → RunState W → HostState W
host_part state = record { hall = state.hall; errors = state.errors; watchers = state.watchers }

-- `check`
abbrev pub io_part : {W : Type 0} → RunState W → IoStreams
io_part state = record { input = state.input; output = state.output }

-- `fetch`, `delete` and `follow`
abbrev pub call_part : {W : Type 0} → RunState W → CallStreams
call_part state = record { peer = state.peer; output = state.output }

-- `put`
abbrev pub put_part : {W : Type 0} → RunState W → PutStreams
put_part state = record { peer = state.peer; input = state.input; output = state.output }
