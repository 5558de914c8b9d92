use Rattle.std.proofs.Common.{◌≡◌, take}
use Rattle.patch_rules.specs.Notices.{operations}
use Rattle.patch_rules.specs.inner.AppendedElements.{with_elements}
use Rattle.patch_write.proofs.notices.push_operations.Given as goal

abbrev pub invariant-loop-note : goal.invariant-loop-note
invariant-loop-note l = l.document ≡ with_elements (operations l.prefix (take l.note-index l.notes)) l.initial.document
