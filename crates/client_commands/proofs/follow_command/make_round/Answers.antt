use Rattle.std.proofs.Common.{◌≡◌, ap, ◌∙◌}
use Rattle.client_commands.specs.OutputLines.{round_line}
use Rattle.client_commands.proofs.Rounds.{line_ends, line_written}
use Rattle.client_commands.proofs.follow_command.make_round.Goals as goal

pub returns-in-Done : goal.returns-in-Done
returns-in-Done g c = record {
  makes_round =
      let is : c.as_bytes.result.now ≡ round_line c.round.new.self.held = c.as_bytes.ensures.value ∙ c.in-Ok.ensures.exact ∙ ap round_line c.replica.ensures.same_replica in
      line_written c.args.follower.now c.round.new.self c.in_default.field-0 c.as_bytes.result.now (record { peer = g.C.Line.state c.args.peer.now; output = g.O.Line.state c.args.output.now }) (record { peer = g.C.Line.state c.round.new.peer; output = g.O.Line.state c.write_output.new.output })
      c.in_default.ensures.follows_document is c.in-Done.ensures.writes_bytes;
}

pub returns : goal.returns
returns g c = record {
  makes_round =
      let is : c.as_bytes.result.now ≡ round_line c.round.new.self.held = c.as_bytes.ensures.value ∙ c.in-Ok.ensures.exact ∙ ap round_line c.replica.ensures.same_replica in
      line_ends c.args.follower.now c.round.new.self c.in_default.field-0 c.as_bytes.result.now c.write_output.result (record { peer = g.C.Line.state c.args.peer.now; output = g.O.Line.state c.args.output.now }) (record { peer = g.C.Line.state c.round.new.peer; output = g.O.Line.state c.write_output.new.output })
      c.in_default.ensures.follows_document is c.write_output.ensures.writes_bytes c.in_default-write_output.not-Done;
}
