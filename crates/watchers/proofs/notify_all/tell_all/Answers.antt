use Rattle.std.proofs.Common.{arith, refl}
use Rattle.watchers.proofs.Turns.{one_kept, one_left, all_told}
use Rattle.watchers.specs.inner.RepeatedNotifications.{one_round}
use Rattle.watchers.proofs.notify_all.tell_all.Goals as goal

pub watchers-preserved-then-notify : goal.watchers-preserved-then-notify
watchers-preserved-then-notify g c =
    one_kept _ _ _ _ _ _ _ _ (omega (arith, c.watchers-test.true, c.len.ensures)) c.index_mut-watcher.ensures.value
    (c.if-notify.ensures.true_has_kept refl) c.watchers.invariant

pub watchers-preserved : goal.watchers-preserved
watchers-preserved g c =
    one_left _ _ _ _ _ _ _ _ _ (omega (arith, c.watchers-test.true, c.len.ensures)) c.index_mut-watcher.ensures.value
    (c.if-notify.ensures.false_has_left refl) c.remove.ensures.items c.watchers.invariant

pub returns-clause-notifies_edit : goal.returns-clause-notifies_edit
returns-clause-notifies_edit g c = all_told _ _ _ _ _ _ (omega (arith, c.watchers-test.false, c.len.ensures)) c.watchers.invariant

pub returns-clause-kept_by_watchers : goal.returns-clause-kept_by_watchers
returns-clause-kept_by_watchers g c = one_round _ _ _ _ _ (all_told _ _ _ _ _ _ (omega (arith, c.watchers-test.false, c.len.ensures)) c.watchers.invariant)
