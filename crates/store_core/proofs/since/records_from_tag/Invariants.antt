use Rattle.std.proofs.Common.{◌≡◌, drop}
use Rattle.store_core.specs.Since.{notes_from}
use Rattle.store_core.proofs.since.records_from_tag.Given as goal

abbrev pub invariant-loop-number : goal.invariant-loop-number
invariant-loop-number l = notes_from l.tag l.notes ≡ notes_from l.tag (drop l.number l.notes)
