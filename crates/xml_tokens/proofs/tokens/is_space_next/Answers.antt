use Rattle.std.proofs.Common.{ap, ◌∙◌}
use Rattle.xml_grammar.specs.TextReading.{first_char_is}
use Rattle.xml_names.specs.Characters.{is_space}
use Rattle.xml_tokens.proofs.AheadLemmas.{space_by_bytes}
use Rattle.xml_tokens.proofs.tokens.is_space_next.Goals as goal

pub returns : goal.returns
returns c = record { exact = c.starts_with_space.ensures.exact ∙ ap (first_char_is is_space) c.as_bytes.ensures.value ∙ space_by_bytes c.args.text.now c.utf8.text }
