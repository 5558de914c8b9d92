use Rattle.std.proofs.Common.{◌∙◌, ◌++◌, ◌∷◌, []}
use Rattle.log_disk.specs.DiskHistories.{disk_history}
use Rattle.folder_log.specs.FolderLogs.{log_parts}
use Rattle.folder_log.proofs.Healing.{nothing_passes}
use Rattle.folder_log.proofs.Drafting.{draft_passes, added_sound, gone_sound}
use Rattle.folder_log.proofs.folder_log.FolderLogChangeLog.add_part.Goals as goal

pub returns-clause-any_moment : goal.returns-clause-any_moment
returns-clause-any_moment g c =
    draft_passes c.args.self.now.history.log c.add_part.new.self.log (c.args.self.now.history.log.draft ++ c.args.part.now ∷ []) c.add_part.ensures.exact

pub returns-clause-still_sound : goal.returns-clause-still_sound
returns-clause-still_sound g c =
    added_sound (log_parts c.args.self.now) c.args.part.now c.deref.result.now (disk_history c.write_draft.new.self) c.add_part.new.self.log c.requires.is_sound c.requires.draft_begun c.requires.short
    (c.deref.ensures.value ∙ c.in_ok-entry.ensures.exact) c.in_default.ensures.ok c.add_part.ensures.exact

pub returns-in-Err-clause-any_moment : goal.returns-in-Err-clause-any_moment
returns-in-Err-clause-any_moment g c = nothing_passes c.args.self.now.history.log c.record_no_change.new.self.log c.record_no_change.ensures.exact

pub returns-in-Err-clause-still_sound : goal.returns-in-Err-clause-still_sound
returns-in-Err-clause-still_sound g c =
    gone_sound (log_parts c.args.self.now) (disk_history c.write_draft.new.self) c.record_no_change.new.self.log c.requires.is_sound c.in-Err.ensures.err c.record_no_change.ensures.exact
