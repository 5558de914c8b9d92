use Rattle.std.proofs.Common.{ℕ, List, ◌++◌, Option, ap, ◌∙◌, codes}
use Rattle.host_status.specs.StatusTexts.{home_limit_lines, limit_line}
use Rattle.host_status.proofs.StatusLines.{two_added}
use Rattle.host_status.proofs.status_texts.push_home_limits.Goals as goal

pub returns : goal.returns
unfolding home_limit_lines
returns c =
    let first = c.in_ok-push_limit.ensures.appends_bytes ∙ ap (λ (n : Option ℕ). c.args.text.now ++ limit_line (codes "home-documents-limit") n) c.wide.ensures.exact in
    record { appends_bytes = two_added c.args.text.now c.push_limit.new.text c.push_limit-2.new.text _ _ first c.in_ok-push_limit-2.ensures.appends_bytes }
