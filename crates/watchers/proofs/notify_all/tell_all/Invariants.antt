use Rattle.std.proofs.Common.{length, ◌-◌}
use Rattle.watchers.specs.inner.Notifications.{AreNotifiedUpTo}
use Rattle.watchers.proofs.notify_all.tell_all.Given as goal

abbrev pub invariant-watchers : goal.invariant-watchers
invariant-watchers g l =
    AreNotifiedUpTo (λ b. (goal.Watcher-dyn g (b.vtable, b.value)).watcher_state b.value) l.edit l.fn.watchers.items l.watchers.items l.kept l.left

abbrev pub decreases-watchers : goal.decreases-watchers
decreases-watchers g l = length l.watchers.items - l.kept
