use Rattle.std.proofs.Common.{chars, sym}
use Rattle.std.proofs.lemmas.Bool.{and_parts}
use Rattle.xml_tokens.specs.Tokens.{is_quote}
use Rattle.xml_tokens.specs.readers.CharacterRuns.{is_plain_in_value, ends_run}
use Rattle.xml_tokens.proofs.PlainFronts.{plain_blanked}
use Rattle.xml_tokens.proofs.TextBytes.{run_whole, run_all}
use Rattle.xml_tokens.proofs.attribute_values.value_of_run.Goals as goal

pub returns-then-ends_plain_value : goal.returns-then-ends_plain_value
returns-then-ends_plain_value c = record {
  reads_rule =
      let text = chars c.args.text.now in
      let plain = chars c.run.result.0.now in
      let rest = chars c.run.result.1.now in
      let front = c.run.ensures.front_of_run in
      let ends = and_parts (is_quote c.args.quote) (ends_run c.args.quote rest) (sym c.if-ends_plain_value.ensures.exact) in
      rw c.in_ok-value.ensures.same_chars (plain_blanked c.args.quote text plain rest ends.0 (run_whole is_plain_in_value text plain rest front c.run.ensures.rest_after_run) (run_all is_plain_in_value text plain front) ends.1);
}
