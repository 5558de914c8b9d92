use Rattle.watchers.proofs.mirror.Mirror.record_change.Goals as goal

pub returns-clause-holds_after : goal.returns-clause-holds_after
returns-clause-holds_after c = rw (c.change.ensures.exact, c.next.ensures.tag_after) at c.apply_to_document.ensures.holds_after
