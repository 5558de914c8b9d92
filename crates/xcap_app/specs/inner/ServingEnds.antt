-- How `serve` ends, by what was served.
use Rattle.std.specs.Prelude.{◌≡◌, ◌⊎◌}
use Rattle.xcap_io.specs.StreamStates.{StreamState}
use Rattle.http_serve.specs.declared.accept_loop.ServeSummary.{ServeSummary}
use Rattle.http_serve.specs.declared.accept_loop.StopReason.TheVariants.{PortFailed}
use Rattle.xcap_app.specs.ServeCommand.{IsCompleteStop, served_line}
use Rattle.xcap_app.specs.inner.CommandOutputs.{PrintsOutput}
use Rattle.xcap_app.specs.declared.exit.Exit.{Exit}
use Rattle.xcap_app.specs.declared.exit.Exit.TheVariants.{NetworkFailed}

-- the number of connections was printed, or the port failed to begin one and nothing was written
abbrev pub EndsServing : ServeSummary → Exit → StreamState → StreamState → Type 0
EndsServing served exit old new =
    (IsCompleteStop served.stop × PrintsOutput (served_line served.connections) exit old new)
    ⊎ ((served.stop ≡ PortFailed) × (exit ≡ NetworkFailed) × (new ≡ old))
