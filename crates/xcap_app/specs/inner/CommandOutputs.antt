-- How a command ends that wrote its output.
use Rattle.std.specs.Prelude.{ℕ, List}
use Rattle.xcap_io.specs.StreamStates.{StreamState}
use Rattle.client_commands.specs.OutputBytes.{WritesAllBytes, WritesSomeBytes}
use Rattle.xcap_app.specs.declared.exit.Exit.{Exit}
use Rattle.xcap_app.specs.declared.exit.Exit.TheVariants.{Done, OutputFailed}

-- how a command ends that wrote its output: with `Done` where the output took it all, and with
-- `OutputFailed` where it failed
abbrev pub PrintsOutput : List ℕ → Exit → StreamState → StreamState → Type 0
PrintsOutput bytes Done old new = WritesAllBytes bytes old new
PrintsOutput bytes OutputFailed old new = WritesSomeBytes bytes old new
PrintsOutput bytes _ old new = ⊥
