use Rattle.std.proofs.Common.{ℕ, List, ◌++◌, string_bytes, ap, ◌∙◌}
use Rattle.std.specs.Str.{chars}
use Rattle.patch_write.proofs.Numbers.{path_added}
use Rattle.patch_write.proofs.operations.child_selector.Goals as goal

pub returns : goal.returns
returns c = record {
  ok =
      path_added c.args.parent.now c.in_ok-text.text c.push_str.new.self (string_bytes c.in_ok-step.step) c.args.child c.ranges.child.fits c.in_ok-text.ensures.ok c.in_ok-step.ensures.ok
      (c.in_ok-push_str.ensures.appends_chars ∙ ap (λ (l : List ℕ). c.in_ok-text.text ++ chars l) c.deref.ensures);
}
