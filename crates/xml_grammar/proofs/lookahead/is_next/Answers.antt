use Rattle.std.proofs.Common.{ap, ◌∙◌}
use Rattle.std.specs.Prelude.{nat_eq}
use Rattle.xml_grammar.specs.TextReading.{first_char_is}
use Rattle.xml_grammar.proofs.AheadLemmas.{letter_by_bytes}
use Rattle.xml_grammar.proofs.lookahead.is_next.Goals as goal

pub returns : goal.returns
returns c = record {
  exact =
      c.starts_with_letter.ensures.exact ∙ ap (first_char_is (λ d. nat_eq d c.args.letter)) c.as_bytes.ensures.value
      ∙ letter_by_bytes c.args.letter c.args.text.now c.requires c.utf8.text;
}
