use Rattle.std.proofs.Common.{ℕ, ap, ◌∙◌}
use Rattle.edit_ops.specs.Notes.{tag_after}
use Rattle.patch_write.proofs.ElementLists.{tag-joined}
use Rattle.patch_write.proofs.notices.last_tag_of_notes.Goals as goal

pub returns : goal.returns
returns c = record {
  exact =
      let newer = c.pieces.result.1.now in
      c.last_tag-2.ensures.exact ∙ ap (λ (k : ℕ). tag_after k newer) c.last_tag.ensures.exact ∙ tag-joined c.args.from c.pieces.result.0.now newer ∙ ap (tag_after c.args.from) c.pieces.ensures.exact;
}
