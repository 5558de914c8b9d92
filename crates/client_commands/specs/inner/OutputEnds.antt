-- How a command ends that wrote its output.
use Rattle.std.specs.Prelude.{ℕ, List}
use Rattle.xcap_io.specs.StreamStates.{StreamState}
use Rattle.client_commands.specs.OutputBytes.{WritesAllBytes, WritesSomeBytes}
use Rattle.client_commands.specs.declared.command_end.CommandEnd.{CommandEnd}
use Rattle.client_commands.specs.declared.command_end.CommandEnd.TheVariants.{Done, OutputFailed}

-- how a command ends that wrote its output: the stream took it all, or failed
abbrev pub WritesOutput : List ℕ → CommandEnd → StreamState → StreamState → Type 0
WritesOutput bytes Done old new = WritesAllBytes bytes old new
WritesOutput bytes OutputFailed old new = WritesSomeBytes bytes old new
WritesOutput bytes _ old new = ⊥
