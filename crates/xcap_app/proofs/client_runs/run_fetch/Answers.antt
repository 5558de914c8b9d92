use Rattle.std.proofs.Common.{inl}
use Rattle.xcap_app.specs.ClientCommands.{ended_so}
use Rattle.xcap_app.proofs.client_runs.run_fetch.Goals as goal

pub returns : goal.returns
returns g c = record { runs_command = ended_so c.fetch_at.result c.fetch_at.ensures.one_call (inl c.exit_after_call.ensures.exact) }
