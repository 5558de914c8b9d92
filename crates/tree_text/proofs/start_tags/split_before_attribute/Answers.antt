use Rattle.std.proofs.Common.{chars, sym}
use Rattle.xml_names.specs.Characters.{is_space}
use Rattle.xml_tokens.proofs.FirstRuns.{run_read}
use Rattle.xml_tokens.proofs.TextBytes.{run_all}
use Rattle.tree_text.proofs.start_tags.split_before_attribute.Goals as goal

pub returns-clause-reads_space : goal.returns-clause-reads_space
returns-clause-reads_space c =
    rw (c.run.ensures.front_of_run, c.run.ensures.rest_after_run) (run_read is_space is_space (λ c h. h) (chars c.args.text.now) (sym c.if-not-is_space_next.ensures.exact))

pub returns-clause-all_space : goal.returns-clause-all_space
returns-clause-all_space c = run_all is_space (chars c.args.text.now) (chars c.run.result.0.now) c.run.ensures.front_of_run
