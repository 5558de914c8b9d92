use Rattle.std.proofs.Common.{◌≡◌, ◌≤◌, ℕ, IfOk, subst, arith}
use Rattle.xcap_app.specs.SampleCommand.{MakesSample}
use Rattle.xcap_app.proofs.SampleRuns.{few_connections}
use Rattle.xcap_app.proofs.sample_run.run_sample.Goals as goal

pub run_connections-requires-clause-within_max : goal.run_connections-requires-clause-within_max
run_connections-requires-clause-within_max c =
    let same : c.from-requests.result ≡ c.args.requests = grind (arith, c.from-requests.ensures) in
    let few : c.from-requests.result ≤ 4294967295 = omega (arith, same, c.ranges.requests.fits) in
    rw c.in_ok-connections.ensures.ok (few_connections c.from-requests.result few)

pub returns : goal.returns
returns c =
    let same : c.from-requests.result ≡ c.args.requests = grind (arith, c.from-requests.ensures) in
    record { sample_summary = subst (λ (n : ℕ). IfOk c.run_connections.result (λ summary. MakesSample n summary)) same c.run_connections.ensures.sample_summary }
