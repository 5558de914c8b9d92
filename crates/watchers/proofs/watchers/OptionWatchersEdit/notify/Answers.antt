use Rattle.std.proofs.Common.{[], ◌∷◌, option_to_list, refl, subst, sym}
use Rattle.watchers.specs.inner.RepeatedNotifications.{one_left}
use Rattle.watchers.specs.Notifications.{RemainOrLeave}
use Rattle.watchers.proofs.watchers.OptionWatchersEdit.notify.Goals as goal

pub returns-then-not-notify_one : goal.returns-then-not-notify_one
returns-then-not-notify_one g c = record {
  notifies_change = subst
      (λ w. RemainOrLeave g.B.Watcher.watcher_state (c.args.edit.now ∷ []) (option_to_list w) [])
      (sym c.in-Some.is)
      (one_left _ _ _ _ (c.if-not-notify_one.ensures.false_has_left refl));
}
