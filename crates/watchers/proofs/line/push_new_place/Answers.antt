use Rattle.std.proofs.Common.{◌++◌, List, ℕ, string_bytes, ap, ◌∙◌}
use Rattle.watchers.proofs.LineBytes.{one_step_more}
use Rattle.watchers.proofs.line.push_new_place.Goals as goal

pub returns : goal.returns
returns c = record {
  appended =
      one_step_more (string_bytes c.args.line.now) (string_bytes c.push_place.new.line) (string_bytes c.push_str.new.self) (string_bytes c.in_ok-step.step) c.args.parent.now c.args.gap c.ranges.gap.fits
      c.in_ok-push_place.ensures.adds_place c.in_ok-step.ensures.ok (c.in_ok-push_str.ensures.bytes ∙ ap (λ (l : List ℕ). string_bytes c.push_place.new.line ++ l) c.deref.ensures);
}
