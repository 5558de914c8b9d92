use Rattle.std.proofs.Common.{List, ℕ, subst}
use Rattle.xcap_app.specs.ServeCommand.{ServesCommand}
use Rattle.xcap_app.proofs.serve.run_serve.Goals as goal

pub returns : goal.returns
returns g c =
    let p = g.P.Line.state in
    let o = g.O.Line.state in
    record {
      serves_command = subst (λ (root : List ℕ). ServesCommand g.W.Watchers.keeps (record { address = c.args.address.now; root = root; count = c.args.count }) c.serve_and_print.result
          (record { port = p c.args.port.now; output = o c.args.output.now; watchers = c.args.watchers.now })
          (record { port = p c.serve_and_print.new.port; output = o c.serve_and_print.new.output; watchers = c.serve_and_print.new.watchers }))
          c.in-Ok.ensures.given_root c.serve_and_print.ensures.serves_command;
    }
