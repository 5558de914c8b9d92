use Rattle.std.proofs.Common.{◌≡◌, ◌++◌, ℕ, List, OnOk, chars, sym, subst}
use Rattle.xml_tokens.proofs.PlainRuns.{smooth_raw}
use Rattle.xml_tokens.proofs.attribute_values.push_raw.Goals as goal

pub returns-then-has_no_controls : goal.returns-then-has_no_controls
returns-then-has_no_controls c = record {
  appended =
      subst (λ (cs : List ℕ). OnOk c.push_str.result (c.push_str.new.self ≡ c.args.value.now ++ cs)) (sym (smooth_raw (chars c.args.run.now) (sym c.if-has_no_controls.ensures.exact))) c.push_str.ensures.appends_chars;
}
