-- What contracts see of a watcher at one moment. This is the project's own.
use Rattle.std.specs.Prelude.{ℕ, List, Option}
use Rattle.edit_ops.specs.declared.edit.Edit.{Edit}
use Rattle.watchers.specs.declared.watcher.Told.{Told}

pub record WatcherState : Type 1 where
  -- the changes of which it was notified, where contracts see them
  pub notified_changes : Option (List Edit)
  -- the number of its failures; it starts at 0 and never falls
  pub faults : ℕ
  -- it keeps every change of which it is notified
  pub never_refuses : Type 0
  -- the results that it may return for a change
  pub answers : Edit → Told → Type 0
  -- the bytes that it has written, where it writes a line about each change and contracts see them
  pub written : Option (List ℕ)
