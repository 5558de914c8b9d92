use Rattle.std.proofs.Common.{sym, ◌∙◌}
use Rattle.patch_write.proofs.ElementLists.{last-tag}
use Rattle.patch_write.proofs.notices.last_tag.Goals as goal

pub returns-in-Some : goal.returns-in-Some
returns-in-Some c = record { exact = c.next.ensures.tag_after ∙ sym (last-tag c.args.from c.args.notes.now c.in-Some.note.now (sym c.in-Some.ensures.value)) }
