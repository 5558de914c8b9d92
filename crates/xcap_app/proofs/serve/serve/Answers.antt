use Rattle.store_core.specs.State.{first_state}
use Rattle.xcap_app.proofs.ServeEndings.{served_standards}
use Rattle.xcap_app.proofs.serve.serve.Goals as goal

pub returns : goal.returns
returns g c = record {
  serves_address =
      let p = g.P.Line.state in
      served_standards g.W.Watchers.keeps g.S.StandardServer.own_step (record { address = c.args.address.now; root = g.S.StandardServer.root c.args.server.now; count = c.args.count }) c.serve_port.result (g.S.StandardServer.represents c.serve_port.new.self)
      (record { port = p c.args.port.now; watchers = c.args.watchers.now }) (record { port = p c.serve_port.new.port; watchers = c.serve_port.new.watchers }) (p c.listen.new.self) c.in_ok-listen.ensures.listens_or_fails (c.serve_port.ensures.serves_port (first_state 1) c.requires);
}
