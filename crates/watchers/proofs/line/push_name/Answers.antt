use Rattle.std.proofs.Common.{◌++◌, List, ℕ, true≢false, string_bytes, ap, sym, ◌∙◌}
use Rattle.watchers.proofs.LineBytes.{in_three}
use Rattle.watchers.proofs.line.push_name.Goals as goal

pub returns : goal.returns
returns c = record {
  appended =
      in_three c.args.name.now (string_bytes c.args.line.now) (string_bytes c.push_str-2.new.self) (string_bytes c.push_str-3.new.self) (string_bytes c.push_str-4.new.self)
      (λ none. true≢false (sym (c.is_empty.ensures.exact.1 none) ∙ c.if-is_empty.false))
      (c.in_ok-push_str.ensures.bytes ∙ ap (λ (l : List ℕ). string_bytes c.args.line.now ++ l) c.as_str-2.ensures.utf8_bytes)
      c.in_ok-push_str-2.ensures.bytes
      (c.in_ok-push_str-3.ensures.bytes ∙ ap (λ (l : List ℕ). string_bytes c.push_str-3.new.self ++ l) c.as_str-3.ensures.utf8_bytes);
}
