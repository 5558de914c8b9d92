-- The messages on the stream for errors. The project's own.
use Rattle.std.specs.Prelude.{◌≡◌, ℕ, List, ◌⊎◌}
use Rattle.xcap_io.specs.StreamStates.{StreamState}
use Rattle.client_commands.specs.OutputBytes.{WritesAllBytes, WritesSomeBytes}
use Rattle.xcap_app.specs.Exits.{HasAllocatedMessage}
use Rattle.xcap_app.specs.declared.exit.Exit.{Exit}
use Rattle.xcap_app.specs.declared.exit.Exit.TheVariants.{OutOfMemory}

-- the words were written, or a part of them where the stream failed
abbrev pub WritesMessage : List ℕ → StreamState → StreamState → Type 0
WritesMessage words old new = WritesAllBytes words old new ⊎ WritesSomeBytes words old new

-- the exit of a run is reported as it is, or as out of memory where memory ran out for the message
-- of a refusal
abbrev pub IsReportedAs : Exit → Exit → Type 0
IsReportedAs exit told = (told ≡ exit) ⊎ (HasAllocatedMessage exit × (told ≡ OutOfMemory))
