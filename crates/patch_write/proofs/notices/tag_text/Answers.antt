use Rattle.std.proofs.Common.{ap, ◌∙◌}
use Rattle.std.specs.Str.{chars}
use Rattle.patch_write.proofs.Numbers.{number}
use Rattle.patch_write.proofs.notices.tag_text.Goals as goal

pub returns : goal.returns
returns c = record { ok = c.own.ensures.exact ∙ ap chars c.in_ok-number.ensures.ok ∙ number c.args.tag c.ranges.tag.fits }
