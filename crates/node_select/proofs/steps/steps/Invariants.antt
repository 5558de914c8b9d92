use Rattle.std.proofs.Common.{◌≡◌, ◌-◌, map, chars}
use denote.Text.{Utf8}
use denote.Shadow.{shadow}
use Rattle.xml_grammar.specs.readers.RuleReaders.{read_at_most}
use Rattle.xml_tokens.proofs.Loops.{finish}
use Rattle.node_select.specs.readers.PartialReads.{steps_with}
use Rattle.node_select.specs.readers.Selectors.{read_steps, read_next_step}
use Rattle.node_select.specs.readers.Views.{step_follows_in, step_view}
use Rattle.node_select.proofs.steps.steps.Given as goal

abbrev pub invariant-loop : goal.invariant-loop
invariant-loop l = record { utf8 : shadow (Utf8 l.rest); left : read_steps (step_follows_in l.form) (chars l.text) ≡ finish steps_with (map step_view l.steps.items) (read_at_most (step_follows_in l.form) read_next_step (l.end - l.counter) (chars l.rest)) }
