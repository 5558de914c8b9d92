use Rattle.std.proofs.Common.{inl, refl}
use Rattle.xcap_app.proofs.ServeEndings.{command_ended, served_address, stands_first}
use Rattle.xcap_app.proofs.serve.serve_and_print.Goals as goal

pub serve-requires : goal.serve-requires
serve-requires g c = stands_first c.args.server.now.content c.requires

pub returns-in-Ok : goal.returns-in-Ok
returns-in-Ok g c = record {
  serves_command =
      let p = g.P.Line.state in
      let o = g.O.Line.state in
      command_ended g.W.Watchers.keeps (record { address = c.args.address.now; root = c.args.server.now.root; count = c.args.count }) c.in-Ok.served c.exit_after_serving.result
      (record { port = p c.args.port.now; output = o c.args.output.now; watchers = c.args.watchers.now }) (record { port = p c.serve.new.port; output = o c.exit_after_serving.new.output; watchers = c.serve.new.watchers })
      (served_address g.W.Watchers.keeps (record { address = c.args.address.now; root = c.args.server.now.root; count = c.args.count }) c.in-Ok.served c.serve.new.server.content
      (record { port = p c.args.port.now; watchers = c.args.watchers.now }) (record { port = p c.serve.new.port; watchers = c.serve.new.watchers }) c.in-Ok.ensures.serves_address)
      c.exit_after_serving.ensures.ends_so;
}

pub returns-in-Err : goal.returns-in-Err
returns-in-Err g c = record { serves_command = (inl c.in-Err.ensures.serves_address, refl) }
