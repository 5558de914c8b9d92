use Rattle.std.proofs.Common.{ℕ, List, ◌++◌, true≢false, sym, ap, ◌∙◌}
use Rattle.patch_write.proofs.WrittenNames.{in_three}
use Rattle.patch_write.proofs.operations.push_name.Goals as goal

pub returns : goal.returns
returns c = record {
  appended =
      in_three c.args.name.now c.args.text.now c.push_str-2.new.self c.push.new.self c.push_str-3.new.self
      (λ none. true≢false (sym (c.is_empty.ensures.exact.1 none) ∙ c.if-is_empty.false))
      (c.in_ok-push_str.ensures.appends_chars ∙ ap (λ (l : List ℕ). c.args.text.now ++ l) c.as_str-2.ensures.same_chars)
      c.in_ok-push.ensures.appended
      (c.in_ok-push_str-2.ensures.appends_chars ∙ ap (λ (l : List ℕ). c.push.new.self ++ l) c.as_str-3.ensures.same_chars);
}
