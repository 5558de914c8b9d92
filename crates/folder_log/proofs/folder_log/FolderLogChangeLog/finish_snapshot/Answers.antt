use Rattle.std.proofs.Common.{◌∙◌}
use Rattle.folder_log.specs.FolderLogs.{log_parts}
use Rattle.folder_log.proofs.Drafting.{ready_after}
use Rattle.folder_log.proofs.Replacing.{drafted_then}
use Rattle.folder_log.proofs.folder_log.FolderLogChangeLog.finish_snapshot.Goals as goal

pub install_snapshot-requires-clause-ready : goal.install_snapshot-requires-clause-ready
install_snapshot-requires-clause-ready g c =
    ready_after (log_parts c.args.self.now) (log_parts c.end_draft.new.self) c.args.first c.deref.result.now c.requires.is_sound c.requires.draft_begun c.if-self.false c.ranges.first.fits
    (c.deref.ensures.value ∙ c.in_ok-entry.ensures.exact) c.in_default.ensures.ended c.end_draft.ensures.same_fields.draft_mark c.end_draft.ensures.same_parts

pub returns-in-Err-install_snapshot-clause-any_moment : goal.returns-in-Err-install_snapshot-clause-any_moment
returns-in-Err-install_snapshot-clause-any_moment g c =
    drafted_then c.args.self.now.history.log c.end_draft.new.self.history.log c.install_snapshot.new.self.history.log c.args.first c.end_draft.ensures.same_log c.end_draft.ensures.same_parts c.end_draft.ensures.any_moment
    c.install_snapshot.ensures.any_moment

pub returns-clause-any_moment : goal.returns-clause-any_moment
returns-clause-any_moment g c =
    drafted_then c.args.self.now.history.log c.end_draft.new.self.history.log c.install_snapshot.new.self.history.log c.args.first c.end_draft.ensures.same_log c.end_draft.ensures.same_parts c.end_draft.ensures.any_moment
    c.install_snapshot.ensures.any_moment
