use Rattle.std.proofs.Common.{chars, sym, ap, ◌∙◌}
use Rattle.xml_grammar.specs.TextReading.{starts_with_word}
use Rattle.xml_tokens.proofs.RunLemmas.{starts_before}
use Rattle.xml_tokens.proofs.character_runs.starts_with_word.Goals as goal

pub returns-in-Some : goal.returns-in-Some
returns-in-Some c = record { exact = sym (ap (starts_with_word c.args.word.now) c.in-Some.ensures.word_and_rest ∙ starts_before c.args.word.now (chars c.in-Some.field-0.now)) }
