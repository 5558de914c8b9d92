use Rattle.log_disk.specs.DiskHistories.{disk_history}
use Rattle.folder_log.specs.FolderLogs.{log_parts}
use Rattle.folder_log.proofs.Replacing.{instead_passes, lost_passes, replaced_passes, unsettled_sound, lost_sound, replaced_sound}
use Rattle.folder_log.proofs.folder_log.FolderLog.install_snapshot.Goals as goal

pub returns-in-Err-clause-any_moment : goal.returns-in-Err-clause-any_moment
returns-in-Err-clause-any_moment g c = instead_passes c.args.self.now.history.log c.record_possible_snapshot.new.self.log c.args.first c.record_possible_snapshot.ensures.exact

pub returns-in-Err-clause-still_sound : goal.returns-in-Err-clause-still_sound
returns-in-Err-clause-still_sound g c =
    unsettled_sound (log_parts c.args.self.now) c.requires.is_sound c.requires.not_stopped c.requires.no_draft c.args.first c.requires.ready
    (disk_history c.rename_draft.new.self) c.record_possible_snapshot.new.self.log c.in-Err.ensures.err c.record_possible_snapshot.ensures.exact

pub returns-in-Err-sync_folder-clause-any_moment : goal.returns-in-Err-sync_folder-clause-any_moment
returns-in-Err-sync_folder-clause-any_moment g c =
    lost_passes c.args.self.now.history.log c.record_possible_snapshot-2.new.self.log c.record_no_change.new.self.log c.args.first c.record_possible_snapshot-2.ensures.exact c.record_no_change.ensures.exact

pub returns-in-Err-sync_folder-clause-still_sound : goal.returns-in-Err-sync_folder-clause-still_sound
returns-in-Err-sync_folder-clause-still_sound g c =
    lost_sound (log_parts c.args.self.now) c.requires.is_sound c.requires.not_stopped c.requires.no_draft c.args.first c.requires.ready
    (disk_history c.rename_draft.new.self) (disk_history c.sync_folder.new.self) c.record_possible_snapshot-2.new.self.log c.record_no_change.new.self.log
    c.in_default.ensures.ok c.in-Err-sync_folder.ensures.err c.record_possible_snapshot-2.ensures.exact c.record_no_change.ensures.exact

pub returns-clause-any_moment : goal.returns-clause-any_moment
returns-clause-any_moment g c =
    replaced_passes c.args.self.now.history.log c.record_possible_snapshot-2.new.self.log c.record_snapshot.new.self.log c.args.first c.record_possible_snapshot-2.ensures.exact c.record_snapshot.ensures.exact

pub returns-clause-still_sound : goal.returns-clause-still_sound
returns-clause-still_sound g c =
    replaced_sound (log_parts c.args.self.now) c.requires.is_sound c.requires.not_stopped c.requires.no_draft c.args.first c.requires.ready
    (disk_history c.rename_draft.new.self) (disk_history c.sync_folder.new.self) c.record_possible_snapshot-2.new.self.log c.record_snapshot.new.self.log
    c.in_default.ensures.ok c.in_default-sync_folder.ensures.ok c.record_possible_snapshot-2.ensures.exact c.record_snapshot.ensures.exact
