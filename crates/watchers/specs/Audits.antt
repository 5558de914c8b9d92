-- A watcher that writes a line about each change. This is the project's own.
use Rattle.std.specs.Prelude.{◌≡◌}
use Rattle.xcap_io.specs.StreamTraffic.{TakesBytes}
use Rattle.xcap_io.specs.StreamStates.{StreamState, CountRises, DiffersByWrites}
use Rattle.xcap_io.specs.StreamWrites.{TakesProperPrefix}
use Rattle.watchers.specs.AuditLines.{audit_line_bytes}
use Rattle.edit_ops.specs.declared.edit.Edit.{Edit}
use Rattle.watchers.specs.declared.watcher.Told.{Told}
use Rattle.watchers.specs.declared.watcher.Told.TheVariants.{Kept, Failed, NoMemory}

-- The sink took the change's line where the change was kept; a proper prefix of it where the sink
-- failed, and its fault counter rose; and nothing when out of memory.
abbrev pub WritesAuditLine : StreamState → Edit → Told → StreamState → Type 0
WritesAuditLine old edit Kept new =
    TakesBytes old.taken new.taken (audit_line_bytes edit) × DiffersByWrites old new
    × (new.write_faults ≡ old.write_faults)
WritesAuditLine old edit Failed new =
    TakesProperPrefix old.taken new.taken (audit_line_bytes edit) × DiffersByWrites old new
    × CountRises old.write_faults new.write_faults
WritesAuditLine old edit NoMemory new = new ≡ old
