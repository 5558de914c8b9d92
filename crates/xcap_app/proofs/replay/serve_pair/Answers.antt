use Rattle.std.proofs.Common.{rules, [], ◌∷◌}
use Rattle.xcap_io.specs.StreamPairs.{pair_state}
use Rattle.xcap_app.specs.ReplayCommand.{ServesInput}
use Rattle.xcap_app.proofs.Pairs.{by_pair}
use Rattle.xcap_app.proofs.replay.serve_pair.Goals as goal

pub returns : goal.returns
returns g c = record {
  serves_input = λ m kept stands.
      let i = g.I.Line.state in
      let o = g.O.Line.state in
      let made = c.new-pair.result in
      let p = c.serve_connection.new.line in
      let s = c.serve_connection.ensures.machine_session m kept stands in
      let r : ServesInput g.W.Watchers.keeps c.args.server.now.root m c.serve_connection.result (record { input = i c.args.input.now; output = o c.args.output.now; watchers = c.args.watchers.now }) (record { input = i p.input.now; output = o p.output.now; watchers = c.serve_connection.new.watchers }) =
      by_pair g.W.Watchers.keeps c.args.server.now.root c.serve_connection.result m s.0 (i c.args.input.now) (o c.args.output.now) (i p.input.now) (o p.output.now)
      (pair_state (i made.input.now) (o made.output.now) (made.input.ghost_name ∷ made.output.ghost_name ∷ []))
      _ _ p.input.ghost_name p.output.ghost_name c.args.watchers.now c.serve_connection.new.watchers c.new-pair.ensures.of_both s.1 s.3 in
      search (rules, r);
}
