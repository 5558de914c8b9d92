-- The meaning of a store's result with the records since a version.
use Rattle.store_core.specs.Since.{ChangesSince, ReportedChanges}
use Rattle.store_core.specs.Since as since
use Rattle.store_core.specs.declared.since.Since.{Since}
use Rattle.store_core.specs.declared.since.Since.TheVariants.{Gone, Unknown, Changes}

abbrev pub changes_since_view : Since → ChangesSince
changes_since_view Gone = since.Gone
changes_since_view Unknown = since.Unknown
changes_since_view (Changes ns) = ReportedChanges ns
