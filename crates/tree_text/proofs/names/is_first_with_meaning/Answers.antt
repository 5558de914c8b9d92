use Rattle.std.proofs.Common.{ap, ◌∙◌}
use Rattle.std.specs.Prelude.{not}
use Rattle.tree_text.proofs.MeaningLemmas.{found_is, one_more}
use Rattle.tree_text.proofs.names.is_first_with_meaning.Goals as goal

pub returns-clause-first_iff : goal.returns-clause-first_iff
returns-clause-first_iff c = λ es holds.
    c.in_ok-first.ensures.added ∙ ap not (found_is c.args.here.now c.requires.namespaces_in_step es c.args.seen.now c.args.raw_attribute.now c.meaning_of.result holds c.meaning_of.ensures.means_as_written)

pub returns-clause-holds_seen : goal.returns-clause-holds_seen
returns-clause-holds_seen c = λ es holds.
    one_more c.args.here.now es c.args.seen.now c.insert.new.self c.args.raw_attribute.now c.meaning_of.result holds c.meaning_of.ensures.means_as_written c.in_ok-first.ensures.updates
