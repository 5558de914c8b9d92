use Rattle.std.proofs.Common.{ap, ◌∙◌}
use Rattle.std.specs.Str.{bytes_eq}
use Rattle.usage_docs.proofs.Words.{chars_ascii}
use Rattle.store_core.proofs.addresses.is_uri_local_name.Goals as goal

pub returns : goal.returns
returns c = record {
  exact =
      c.is.ensures.exact ∙ ap (bytes_eq c.args.local.now) (chars_ascii c.attribute_name.result.now c.attribute_name.ensures.is_ascii_alone ∙ c.attribute_name.ensures.expected_word);
}
