use Rattle.std.proofs.Common.{List, ℕ, subst}
use Rattle.xcap_app.specs.KeepCommand.{KeepsCommand}
use Rattle.xcap_app.proofs.keep.keep.Goals as goal

pub returns : goal.returns
returns g c = record {
  keeps_journal =
      let p = g.P.Line.state in
      let i = g.I.Line.state in
      let o = g.O.Line.state in
      subst (λ (root : List ℕ). KeepsCommand g.W.Watchers.keeps (record { address = c.args.address.now; root = root; count = c.args.count }) c.keep_with_server-exit.result
      (record { port = p c.args.port.now; input = i c.args.input.now; output = o c.args.output.now; watchers = c.args.watchers.now })
      (record { port = p c.keep_with_server-exit.new.port; input = i c.keep_with_server-exit.new.input; output = o c.keep_with_server-exit.new.output; watchers = c.keep_with_server-exit.new.watchers }))
      c.in-Ok.ensures.given_root c.keep_with_server-exit.ensures.keeps_command;
}
