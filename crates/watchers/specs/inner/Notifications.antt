-- Watchers of which the first were notified of a change.
use Rattle.std.specs.Prelude.{◌≡◌, ℕ, ◌+◌, ◌≤◌, List, ◌++◌, take, drop, length}
use Rattle.edit_ops.specs.declared.edit.Edit.{Edit}
use Rattle.watchers.specs.Notifications.{AreNotified}
use Rattle.watchers.specs.WatcherStates.{WatcherState}

-- B is the type of a watcher, of which contracts see this state.
module _ {B : Type 0} (state : B → WatcherState) where
  -- The first i of those in the list now were notified and kept the change, and some left:
  -- whatever notifying the rest leaves, after the first i it is what notifying all of them leaves.
  pub record AreNotifiedUpTo (edit : Edit) (old now : List B) (i left : ℕ) : Type 0 where
    pub within : i ≤ length now
    pub count : left + length now ≡ length old
    pub goes_on : (new : List B) (k : ℕ)
        → AreNotified state edit (drop i now) new k
        → AreNotified state edit old (take i now ++ new) (left + k)
