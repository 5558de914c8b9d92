use Rattle.std.proofs.Common.{◌++◌}
use Rattle.host_status.specs.StatusTexts.{answered_lines, content_lines, home_limit_lines, limit_lines}
use Rattle.host_status.proofs.StatusLines.{added_first, four_added, limits_are}
use Rattle.host_status.proofs.status_texts.write_status_text.Goals as goal

pub returns : goal.returns
returns c =
    let content = content_lines c.args.store.now.content in
    let answered = answered_lines c.args.counts.now in
    let limits = c.args.store.now.content.limits in
    let added = four_added c.new-text.result c.push_content.new.text c.push_limits.new.text c.push_home_limits.new.text c.push_answered.new.text content (limit_lines limits) (home_limit_lines limits) answered
    c.in_ok-push_content.ensures.appends_bytes (limits_are limit_lines c.push_content.new.text c.push_limits.new.text c.limits.result limits c.limits.ensures.exact c.in_ok-push_limits.ensures.appends_bytes)
    (limits_are home_limit_lines c.push_limits.new.text c.push_home_limits.new.text c.limits-2.result limits c.limits-2.ensures.exact c.in_ok-push_home_limits.ensures.appends_bytes) c.in_ok-push_answered.ensures.appends_bytes in
    record { ok = added_first c.new-text.result c.push_answered.new.text (content ++ limit_lines limits ++ home_limit_lines limits ++ answered) c.new-text.ensures.holds_no_bytes added }
