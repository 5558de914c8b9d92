use Rattle.std.proofs.Common.{chars, sym}
use Rattle.xml_names.specs.Characters.{is_space}
use Rattle.xml_tokens.proofs.FirstRuns.{run_read, run_unread}
use Rattle.xml_tokens.proofs.TextBytes.{run_all}
use Rattle.xml_tokens.proofs.tokens.required_spaces.Goals as goal

pub returns-then-not-is_space_next : goal.returns-then-not-is_space_next
returns-then-not-is_space_next c = record { reads_rule = run_unread is_space is_space (chars c.args.text.now) (sym c.if-not-is_space_next.ensures.exact); all_space = tt }

pub returns : goal.returns
returns c = record {
  reads_rule = rw (c.run.ensures.front_of_run, c.run.ensures.rest_after_run) (run_read is_space is_space (λ c h. h) (chars c.args.text.now) (sym c.if-not-is_space_next.ensures.exact));
  all_space = run_all is_space (chars c.args.text.now) (chars c.run.result.0.now) c.run.ensures.front_of_run;
}
