use Rattle.xcap_app.proofs.ServeEndings.{replayed}
use Rattle.xcap_app.proofs.replay.replay_with_server.Goals as goal

pub returns : goal.returns
returns g c = record {
  replays_command =
      let i = g.I.Line.state in
      let o = g.O.Line.state in
      replayed g.W.Watchers.keeps c.args.server.now.root c.serve_pair.result c.exit_after_connection.result c.args.server.now.content (record { input = i c.args.input.now; output = o c.args.output.now; watchers = c.args.watchers.now })
      (record { input = i c.serve_pair.new.input; output = o c.serve_pair.new.output; watchers = c.serve_pair.new.watchers }) c.requires c.serve_pair.ensures.serves_input c.exit_after_connection.ensures.exact;
}
