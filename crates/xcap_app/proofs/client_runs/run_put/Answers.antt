use Rattle.std.proofs.Common.{inl}
use Rattle.xcap_app.specs.ClientCommands.{ended_so}
use Rattle.xcap_app.proofs.client_runs.run_put.Goals as goal

pub returns : goal.returns
returns g c = record { runs_command = ended_so c.put_at.result c.put_at.ensures.puts_input (inl c.exit_after_call.ensures.exact) }
