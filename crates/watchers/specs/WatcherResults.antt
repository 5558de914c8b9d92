-- The results of watchers. This is the project's own.
use Rattle.std.specs.Prelude.{◌≢◌}
use Rattle.watchers.specs.declared.watcher.Told.{Told}
use Rattle.watchers.specs.declared.watcher.Told.TheVariants.{Failed}

-- of a watcher that uses nothing that fails
abbrev pub IsNotFailure : Told → Type 0
IsNotFailure told = told ≢ Failed
