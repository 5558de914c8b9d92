use Rattle.std.proofs.Common.{◌||◌, ap, ◌∙◌}
use Rattle.std.specs.Prelude.{nat_eq}
use Rattle.xml_grammar.specs.TextReading.{first_char_is}
use Rattle.xml_grammar.proofs.AheadLemmas.{either_by_bytes}
use Rattle.xml_grammar.proofs.lookahead.is_either_next.Goals as goal

pub returns : goal.returns
returns c = record {
  exact =
      c.starts_with_either.ensures.exact ∙ ap (first_char_is (λ d. nat_eq d c.args.one || nat_eq d c.args.other)) c.as_bytes.ensures.value
      ∙ either_by_bytes c.args.one c.args.other c.args.text.now c.requires.one_is_ascii c.requires.other_is_ascii c.utf8.text;
}
