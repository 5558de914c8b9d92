use Rattle.std.proofs.Common.{◌≡◌, ℕ, List, IfOk, chars, sym, subst}
use Rattle.xml_tokens.proofs.PlainRuns.{plain_lines}
use Rattle.xml_tokens.proofs.character_runs.normalize_lines.Goals as goal

pub returns-then-has_no_return : goal.returns-then-has_no_return
returns-then-has_no_return c = record {
  ok =
      subst (λ (cs : List ℕ). IfOk c.from.result (λ text. text ≡ cs)) (sym (plain_lines (chars c.args.run.now) (sym c.if-has_no_return.ensures.exact))) c.from.ensures.same_chars;
}
