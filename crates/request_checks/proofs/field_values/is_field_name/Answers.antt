use Rattle.std.proofs.Common.{◌∙◌}
use Rattle.request_checks.proofs.WordCase.{word_test}
use Rattle.request_checks.proofs.field_values.is_field_name.Goals as goal

pub returns : goal.returns
returns c = record {
  exact =
      word_test c.args.text.now c.args.word.now c.as_bytes.result.now c.eq_ignore_ascii_case.result (c.as_bytes.ensures.value ∙ c.as_str.ensures.utf8_bytes) c.requires c.eq_ignore_ascii_case.ensures.test;
}
