use Rattle.std.proofs.Common.{◌≡◌, take}
use Rattle.patch_rules.specs.Notices.{patching_documents}
use Rattle.patch_rules.specs.inner.AppendedElements.{with_elements}
use Rattle.patch_write.proofs.notices.push_record_documents.Given as goal

abbrev pub invariant-loop-note : goal.invariant-loop-note
invariant-loop-note l = l.notice ≡ with_elements (patching_documents l.names.prefix l.names.sel (take l.note-index l.notes)) l.initial.notice
