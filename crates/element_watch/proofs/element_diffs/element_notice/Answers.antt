use Rattle.std.proofs.Common.{sym, ap, ◌∙◌}
use Rattle.store_core.specs.ChangesSince.{changes_since_view}
use Rattle.element_watch.proofs.element_diffs.element_notice.Goals as goal

pub notice_since-requires-clause-within_max : goal.notice_since-requires-clause-within_max
notice_since-requires-clause-within_max c =
    let kept = c.represents_valid_state.ensures.valid_state in
    let told = sym c.since.ensures.exact ∙ ap changes_since_view c.in-Changes.is in
    (c.notes_since_a_version_lead_from_it.ensures.records_lead_here c.args.store.now.content kept.0 c.args.watch.doc.now c.args.watch.tag c.in-Changes.notes kept.2 kept.1 told).few
