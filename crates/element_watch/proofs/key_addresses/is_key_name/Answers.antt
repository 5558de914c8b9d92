use Rattle.std.proofs.Common.{◌∙◌, ap, bytes_eq}
use Rattle.usage_docs.proofs.Words.{chars_ascii}
use Rattle.element_watch.proofs.key_addresses.is_key_name.Goals as goal

pub returns : goal.returns
returns c = record { exact = c.is.ensures.exact ∙ ap (bytes_eq c.args.text.now) (chars_ascii c.attribute_name.result.now c.attribute_name.ensures.is_ascii_alone ∙ c.attribute_name.ensures.expected_word) }
