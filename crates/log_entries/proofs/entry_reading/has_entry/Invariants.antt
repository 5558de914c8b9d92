use Rattle.std.proofs.Common.{◌≡◌, length}
use Rattle.log_entries.specs.Entries.{has_entry}
use Rattle.log_entries.proofs.entry_reading.has_entry.Given as goal

-- if one begins anywhere, it does in the rest
abbrev pub invariant-loop-rest : goal.invariant-loop-rest
invariant-loop-rest l = has_entry l.mark l.rest ≡ has_entry l.mark l.bytes

abbrev pub decreases-loop-rest : goal.decreases-loop-rest
decreases-loop-rest l = length l.rest
