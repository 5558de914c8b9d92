use Rattle.log_disk.specs.DiskHistories.{disk_history}
use Rattle.folder_log.specs.FolderLogs.{log_parts}
use Rattle.folder_log.proofs.Committing.{torn_passes, lost_passes, appended_passes, torn_sound, lost_sound, done_sound}
use Rattle.folder_log.proofs.folder_log.FolderLog.commit.Goals as goal

pub cut_torn_write-requires-clause-is_sound : goal.cut_torn_write-requires-clause-is_sound
cut_torn_write-requires-clause-is_sound g c =
    torn_sound (log_parts c.args.self.now) c.requires.is_sound c.requires.begun c.requires.not_stopped c.requires.not_torn c.requires.numbers_left
    c.args.change.now c.requires.short c.args.entry.now c.requires.is_entry (disk_history c.write.new.self) c.record_open_change.new.self.log c.in-Err.ensures.err c.record_open_change.ensures.exact

pub returns-in-Err-clause-any_moment : goal.returns-in-Err-clause-any_moment
returns-in-Err-clause-any_moment g c =
    torn_passes c.args.self.now.history.log c.record_open_change.new.self.log c.cut_torn_write.new.self.history.log c.args.change.now c.record_open_change.ensures.exact c.cut_torn_write.ensures.any_moment

pub returns-in-Err-sync-clause-any_moment : goal.returns-in-Err-sync-clause-any_moment
returns-in-Err-sync-clause-any_moment g c =
    lost_passes c.args.self.now.history.log c.record_open_change-2.new.self.log c.record_no_change.new.self.log c.args.change.now c.record_open_change-2.ensures.exact c.record_no_change.ensures.exact

pub returns-in-Err-sync-clause-still_sound : goal.returns-in-Err-sync-clause-still_sound
returns-in-Err-sync-clause-still_sound g c =
    lost_sound (log_parts c.args.self.now) c.requires.is_sound c.requires.begun c.requires.not_stopped c.requires.not_torn c.requires.numbers_left
    c.args.change.now c.requires.short c.args.entry.now c.requires.is_entry (disk_history c.write.new.self) (disk_history c.sync.new.self)
    c.record_open_change-2.new.self.log c.record_no_change.new.self.log c.in_default.ensures.ok c.in-Err-sync.ensures.err c.record_open_change-2.ensures.exact c.record_no_change.ensures.exact

pub returns-clause-any_moment : goal.returns-clause-any_moment
returns-clause-any_moment g c =
    appended_passes c.args.self.now.history.log c.record_open_change-2.new.self.log c.record_appended_change.new.self.log c.args.change.now c.record_open_change-2.ensures.exact c.record_appended_change.ensures.exact

pub returns-clause-still_sound : goal.returns-clause-still_sound
returns-clause-still_sound g c =
    done_sound (log_parts c.args.self.now) c.requires.is_sound c.requires.begun c.requires.not_stopped c.requires.not_torn c.requires.numbers_left
    c.args.change.now c.requires.short c.args.entry.now c.requires.is_entry (disk_history c.write.new.self) (disk_history c.sync.new.self)
    c.record_open_change-2.new.self.log c.record_appended_change.new.self.log c.in_default.ensures.ok c.in_default-sync.ensures.ok c.record_open_change-2.ensures.exact c.record_appended_change.ensures.exact
