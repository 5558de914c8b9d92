use Rattle.host_status.specs.StatusTexts.{answered_lines}
use Rattle.host_status.proofs.StatusLines.{four_added}
use Rattle.host_status.proofs.status_texts.push_answered.Goals as goal

pub returns : goal.returns
unfolding answered_lines
returns c =
    let added = four_added c.args.text.now c.push_line.new.text c.push_line-2.new.text c.push_line-3.new.text c.push_line-4.new.text _ _ _ _
    c.in_ok-push_line.ensures.appends_bytes c.in_ok-push_line-2.ensures.appends_bytes c.in_ok-push_line-3.ensures.appends_bytes c.in_ok-push_line-4.ensures.appends_bytes in
    record { appends_bytes = added }
