use Rattle.std.proofs.Common.{◌≡◌, drop, length, refl, ap, arith}
use Rattle.xcap_io.specs.StreamStates.{StreamState}
use Rattle.xcap_app.specs.inner.KnownPorts.{port_line}
use Rattle.xcap_app.proofs.SampleRuns.{serves_them}
use Rattle.xcap_app.proofs.sample_run.serve_connections.Goals as goal

pub returns : goal.returns
returns c = record {
  serves_all = λ m stands.
      let p = c.new-port.result in
      let q = c.serve_streams.new.port in
      let many : c.len-count.result ≡ length c.args.connections.items = grind (arith, c.len-count.ensures) in
      serves_them _ c.serve_streams.result c.args.noting.now.server.root c.args.connections.items c.args.noting.now c.serve_streams.new.machine c.len-count.result
      (port_line p.to_come.items (drop p.given p.present) p.log.history) (port_line q.to_come.items (drop q.given q.present) q.log.history) _ _ m
      many (ap (λ (l : StreamState). l.port.to_come) c.new-port.ensures.all_to_come) refl refl refl refl refl refl stands c.serve_streams.ensures.serves_port;
}
