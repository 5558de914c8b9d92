use Rattle.std.proofs.Common.{flat_map, take}
use Rattle.patch_write.specs.inner.DeclaredPrefixes.{GainsPrefixes, record_prefixes}
use Rattle.patch_write.proofs.prefixes.add_notes.Given as goal

abbrev pub invariant-loop-note : goal.invariant-loop-note
invariant-loop-note l = GainsPrefixes (flat_map record_prefixes (take l.note-index l.notes)) l.initial.seen l.seen
