use Rattle.std.proofs.Common.{append_assoc}
use Rattle.reply_bodies.proofs.conflicts.push_no_parent.Goals as goal

pub returns : goal.returns
returns c = record { appended = rw (c.in_ok-extend-2.ensures.appended_or_unchanged, c.in_ok-push_text.ensures.appended, c.in_ok-extend.ensures.appended_or_unchanged) (simp append_assoc) }
