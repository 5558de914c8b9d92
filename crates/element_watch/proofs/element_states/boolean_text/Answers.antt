use Rattle.std.proofs.Common.{sym, ap, ◌∙◌}
use Rattle.element_watch.specs.ElementNotices.{boolean_text}
use Rattle.element_watch.proofs.ElementWords.{false_word, true_word}
use Rattle.element_watch.proofs.element_states.boolean_text.Goals as goal

pub returns-then-value : goal.returns-then-value
returns-then-value c = record { exact = true_word ∙ ap boolean_text (sym c.if-value.true) }

pub returns-else-value : goal.returns-else-value
returns-else-value c = record { exact = false_word ∙ ap boolean_text (sym c.if-value.false) }
