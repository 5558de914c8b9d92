use Rattle.std.proofs.Common.{ℕ, ◌+◌, List, ◌++◌, ap, ◌∙◌}
use Rattle.host_status.proofs.StatusLines.{content_is, three_added}
use Rattle.host_status.proofs.status_texts.push_content.Goals as goal

pub returns : goal.returns
returns c =
    let added = three_added c.args.text.now c.push_line.new.text c.push_line-2.new.text c.push_line-3.new.text _ _ _
    c.in_ok-push_line.ensures.appends_bytes c.in_ok-push_line-2.ensures.appends_bytes c.in_ok-push_line-3.ensures.appends_bytes in
    record {
      appends_bytes =
          added ∙ ap (λ (lines : List ℕ). c.args.text.now ++ lines)
          (content_is c.args.store.now.content c.count.result c.total.result (c.last_number.result + 1) c.count.ensures.exact c.total.ensures.exact c.last_number.ensures.below_next);
    }
