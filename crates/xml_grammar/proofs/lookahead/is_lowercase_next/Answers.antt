use Rattle.std.proofs.Common.{ap, ◌∙◌}
use Rattle.std.specs.Int.{is_in_range as within}
use Rattle.xml_grammar.specs.TextReading.{first_char_is}
use Rattle.xml_grammar.proofs.AheadLemmas.{small_by_bytes}
use Rattle.xml_grammar.proofs.lookahead.is_lowercase_next.Goals as goal

pub returns : goal.returns
returns c = record { exact = c.starts_with_lowercase.ensures.exact ∙ ap (first_char_is (within 97 122)) c.as_bytes.ensures.value ∙ small_by_bytes c.args.text.now c.utf8.text }
