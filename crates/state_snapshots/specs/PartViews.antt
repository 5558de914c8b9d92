-- The start of a snapshot, as the code has it. This is the project's own.
use Rattle.state_snapshots.specs.Snapshots.{Start}
use Rattle.state_snapshots.specs.declared.parts.Start.{Start as CodeStart}

abbrev pub start_view : CodeStart → Start
start_view start = record { count = start.count; next = start.next; root = start.root.now }
