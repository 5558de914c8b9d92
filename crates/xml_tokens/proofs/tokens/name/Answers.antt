use Rattle.std.proofs.Common.{chars, sym}
use Rattle.xml_names.specs.Characters.{is_name_start, is_name_char}
use Rattle.xml_tokens.proofs.FirstRuns.{run_read, run_unread, run_some, start_in_name}
use Rattle.xml_tokens.proofs.tokens.name.Goals as goal

pub returns-then-not-starts_with_name-clause-reads_rule : goal.returns-then-not-starts_with_name-clause-reads_rule
returns-then-not-starts_with_name-clause-reads_rule c = run_unread is_name_start is_name_char (chars c.args.text.now) (sym c.if-not-starts_with_name.ensures.exact)

pub returns : goal.returns
returns c =
    let text = chars c.args.text.now in
    let first = sym c.if-not-starts_with_name.ensures.exact in
    record {
      reads_rule = rw (c.run.ensures.front_of_run, c.run.ensures.rest_after_run) (run_read is_name_start is_name_char start_in_name text first);
      nonempty_name = rw c.run.ensures.front_of_run (run_some is_name_start is_name_char start_in_name text first);
      front_of_text = c.run.ensures.front_of_text;
    }
