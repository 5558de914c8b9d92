use Rattle.std.proofs.Common.{false}
use Rattle.log_disk.specs.DiskHistories.{disk_history}
use Rattle.folder_log.specs.FolderLogs.{log_parts}
use Rattle.folder_log.proofs.Healing.{nothing_passes, twice_passes}
use Rattle.folder_log.proofs.Drafting.{gone_sound, more_sound, ready_sound}
use Rattle.folder_log.proofs.folder_log.FolderLog.end_draft.Goals as goal

pub returns-in-Err-clause-any_moment : goal.returns-in-Err-clause-any_moment
returns-in-Err-clause-any_moment g c = nothing_passes c.args.self.now.history.log c.record_no_change.new.self.log c.record_no_change.ensures.exact

pub returns-in-Err-clause-still_sound : goal.returns-in-Err-clause-still_sound
returns-in-Err-clause-still_sound g c =
    gone_sound (log_parts c.args.self.now) (disk_history c.write_draft.new.self) c.record_no_change.new.self.log c.requires.is_sound c.in-Err.ensures.err c.record_no_change.ensures.exact

pub returns-in-Err-sync_draft-clause-any_moment : goal.returns-in-Err-sync_draft-clause-any_moment
returns-in-Err-sync_draft-clause-any_moment g c =
    twice_passes c.args.self.now.history.log c.record_no_change-2.new.self.log c.record_no_change-in-Err-sync_draft.new.self.log c.record_no_change-2.ensures.exact c.record_no_change-in-Err-sync_draft.ensures.exact

pub returns-in-Err-sync_draft-clause-still_sound : goal.returns-in-Err-sync_draft-clause-still_sound
returns-in-Err-sync_draft-clause-still_sound g c =
    let p = log_parts c.args.self.now in
    let first = disk_history c.write_draft.new.self in
    let mid = c.record_no_change-2.new.self.log in
    gone_sound (record p { folder = first; history = mid; has_draft = false }) (disk_history c.sync_draft.new.self) c.record_no_change-in-Err-sync_draft.new.self.log
    (more_sound p c.args.entry.now first mid c.requires.is_sound c.in_default.ensures.ok c.record_no_change-2.ensures.exact) c.in-Err-sync_draft.ensures.err c.record_no_change-in-Err-sync_draft.ensures.exact

pub returns-clause-any_moment : goal.returns-clause-any_moment
returns-clause-any_moment g c =
    twice_passes c.args.self.now.history.log c.record_no_change-2.new.self.log c.record_no_change-3.new.self.log c.record_no_change-2.ensures.exact c.record_no_change-3.ensures.exact

pub returns-clause-still_sound : goal.returns-clause-still_sound
returns-clause-still_sound g c =
    let p = log_parts c.args.self.now in
    let first = disk_history c.write_draft.new.self in
    let mid = c.record_no_change-2.new.self.log in
    ready_sound (record p { folder = first; history = mid; has_draft = false }) (disk_history c.sync_draft.new.self) c.record_no_change-3.new.self.log
    (more_sound p c.args.entry.now first mid c.requires.is_sound c.in_default.ensures.ok c.record_no_change-2.ensures.exact) c.in_default-sync_draft.ensures.ok c.record_no_change-3.ensures.exact
