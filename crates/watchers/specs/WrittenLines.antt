-- What watchers write that write a line about each change. This is the project's own.
use Rattle.std.specs.Prelude.{◌≡◌, ℕ, List, ◌++◌, flat_map, Option, None, Some, option_map}
use Rattle.xcap_io.specs.StreamTraffic.{TakesBytes}
use Rattle.xcap_io.specs.StreamWrites.{TakesProperPrefix}
use Rattle.edit_ops.specs.declared.edit.Edit.{Edit}
use Rattle.watchers.specs.AuditLines.{audit_line_bytes}
use Rattle.watchers.specs.declared.watcher.Told.{Told}
use Rattle.watchers.specs.declared.watcher.Told.TheVariants.{Kept, Failed, NoMemory}

-- the bytes written, with the lines of these changes appended, where contracts see them
abbrev pub with_lines : Option (List ℕ) → List Edit → Option (List ℕ)
with_lines written edits = option_map (λ bytes. bytes ++ flat_map audit_line_bytes edits) written

-- By its result for a change a watcher wrote the change's line where it kept the change, a proper
-- prefix of the line where it failed, and nothing when out of memory.
abbrev pub WroteLine : List ℕ → Edit → Told → List ℕ → Type 0
WroteLine old edit Kept new = TakesBytes old new (audit_line_bytes edit)
WroteLine old edit Failed new = TakesProperPrefix old new (audit_line_bytes edit)
WroteLine old edit NoMemory new = new ≡ old

-- likewise where contracts see what it has written; of another watcher they never do
abbrev pub WroteLineIfSeen : Option (List ℕ) → Edit → Told → Option (List ℕ) → Type 0
WroteLineIfSeen None edit answer written = written ≡ None
WroteLineIfSeen (Some old) edit answer written =
    (new : List ℕ) × (written ≡ Some new) × WroteLine old edit answer new
