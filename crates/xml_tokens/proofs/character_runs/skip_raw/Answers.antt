use Rattle.std.proofs.Common.{rules, chars, sym, ◌∙◌}
use Rattle.xml_tokens.specs.Tokens.{is_raw_char}
use Rattle.xml_tokens.specs.readers.Literals.{cdata_end}
use Rattle.xml_tokens.proofs.RunLemmas.{without_over}
use Rattle.xml_tokens.proofs.character_runs.skip_raw.Goals as goal

pub each-preserved : goal.each-preserved
each-preserved c = record { utf8 = search rules; left = c.each.invariant.left ∙ c.in-None.ensures.none_raw_continues }

pub returns-in-Some-skip_at_raw_end : goal.returns-in-Some-skip_at_raw_end
returns-in-Some-skip_at_raw_end c = record { exact = c.in-Some-skip_at_raw_end.ensures.some_raw_ends ∙ sym c.each.invariant.left }

pub returns : goal.returns
returns c = record { exact = sym (c.each.invariant.left ∙ without_over is_raw_char cdata_end (chars c.each.rest.now) c.in_default.ensures.none_is_empty) }
