use Rattle.std.proofs.Common.{chars, sym}
use Rattle.std.specs.Char.{is_ascii_digit}
use Rattle.xml_tokens.proofs.FirstRuns.{run_read, run_unread}
use Rattle.xml_tokens.proofs.digit_runs.digits.Goals as goal

pub returns-then-not-starts_with_digit : goal.returns-then-not-starts_with_digit
returns-then-not-starts_with_digit c = record { reads_some_digits = run_unread is_ascii_digit is_ascii_digit (chars c.args.text.now) (sym c.if-not-starts_with_digit.ensures.exact) }

pub returns : goal.returns
returns c = record { reads_some_digits = rw (c.run.ensures.front_of_run, c.run.ensures.rest_after_run) (run_read is_ascii_digit is_ascii_digit (λ c h. h) (chars c.args.text.now) (sym c.if-not-starts_with_digit.ensures.exact)) }
