use Rattle.std.proofs.Common.{◌≡◌, length, arith}
use Rattle.xcap_app.proofs.SampleRuns.{sampled}
use Rattle.xcap_app.proofs.sample_run.run_connections.Goals as goal

pub overflow_mul-len : goal.overflow_mul-len
overflow_mul-len c =
    let many : c.len.result ≡ length c.args.connections.items = grind (arith, c.len.ensures) in
    omega (arith, many, c.requires.within_max)

pub returns : goal.returns
returns c = record {
  sample_summary =
      sampled c.args.requests _ c.args.connections.items c.in_ok-noting.noting c.serve_connections.new.noting c.summary-summary.result c.in_ok-noting.ensures.is_new c.requires.every_connection
      c.serve_connections.ensures.serves_all c.summary-summary.ensures.exact;
}
