use Rattle.std.proofs.Common.{map, string_bytes, ap, ◌∙◌}
use Rattle.xcap_app.specs.declared.command.Command.{Command}
use Rattle.xcap_app.specs.declared.command_line.CommandLine.TheVariants.{Runs}
use Rattle.xcap_app.proofs.Ends.{ran_out}
use Rattle.xcap_app.proofs.HostLimits.{countable_host}
use Rattle.xcap_app.proofs.entry_point.execute_words.Goals as goal

pub execute-exit-requires : goal.execute-exit-requires
execute-exit-requires g c = record {
  positive = c.requires.positive;
  limits_countable = λ address root options is. countable_host (map string_bytes c.args.words.now) c.in-Ok-Runs.field-0 address root options c.in-Ok-Runs.ensures.ok (c.in-Ok-Runs.field-0-is ∙ ap (λ (k : Command). Runs k) is);
  no_connections = c.requires.no_connections;
}

pub returns-in-Err : goal.returns-in-Err
returns-in-Err g c = record { runs_command = ran_out g.W.Watchers.keeps _ _ _ _ _ _ _ _ _ }
