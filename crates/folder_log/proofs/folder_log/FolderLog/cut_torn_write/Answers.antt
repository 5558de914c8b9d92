use Rattle.log_disk.specs.DiskHistories.{disk_history}
use Rattle.folder_log.specs.FolderLogs.{log_parts}
use Rattle.folder_log.proofs.Healing.{after_fault, nothing_passes, twice_passes, healed_passes, healed_sound, lost_sound}
use Rattle.folder_log.proofs.folder_log.FolderLog.cut_torn_write.Goals as goal

pub returns-in-Err-clause-any_moment : goal.returns-in-Err-clause-any_moment
returns-in-Err-clause-any_moment g c = nothing_passes c.args.self.now.history.log c.record_no_change.new.self.log c.record_no_change.ensures.exact

pub returns-in-Err-clause-still_sound : goal.returns-in-Err-clause-still_sound
returns-in-Err-clause-still_sound g c =
    after_fault (log_parts c.args.self.now) (disk_history c.cut.new.self) c.record_no_change.new.self.log c.requires.is_sound c.in-Err.ensures.err c.record_no_change.ensures.exact

pub returns-in-Err-sync-clause-any_moment : goal.returns-in-Err-sync-clause-any_moment
returns-in-Err-sync-clause-any_moment g c =
    twice_passes c.args.self.now.history.log c.record_no_change-2.new.self.log c.record_no_change-in-Err-sync.new.self.log c.record_no_change-2.ensures.exact c.record_no_change-in-Err-sync.ensures.exact

pub returns-in-Err-sync-clause-still_sound : goal.returns-in-Err-sync-clause-still_sound
returns-in-Err-sync-clause-still_sound g c =
    lost_sound (log_parts c.args.self.now) c.requires.is_sound c.requires.begun c.requires.not_stopped (disk_history c.cut.new.self) (disk_history c.sync.new.self)
    c.record_no_change-2.new.self.log c.record_no_change-in-Err-sync.new.self.log c.in_default.ensures.ok c.in-Err-sync.ensures.err c.record_no_change-2.ensures.exact c.record_no_change-in-Err-sync.ensures.exact

pub returns-clause-any_moment : goal.returns-clause-any_moment
returns-clause-any_moment g c =
    healed_passes c.args.self.now.history.log c.record_no_change-2.new.self.log c.record_no_open_change.new.self.log c.record_no_change-2.ensures.exact c.record_no_open_change.ensures.exact

pub returns-clause-still_sound : goal.returns-clause-still_sound
returns-clause-still_sound g c =
    healed_sound (log_parts c.args.self.now) c.requires.is_sound c.requires.begun c.requires.not_stopped (disk_history c.cut.new.self) (disk_history c.sync.new.self)
    c.record_no_change-2.new.self.log c.record_no_open_change.new.self.log c.in_default.ensures.ok c.in_default-sync.ensures.ok c.record_no_change-2.ensures.exact c.record_no_open_change.ensures.exact
