use Rattle.std.proofs.Common.{[], refl}
use Rattle.log_disk.specs.DiskHistories.{disk_history}
use Rattle.change_log.specs.LogHistories.{MayBeFound}
use Rattle.change_log.proofs.Passing.{no_call}
use Rattle.folder_log.specs.FolderLogs.{log_parts}
use Rattle.folder_log.proofs.Healing.{nothing_passes}
use Rattle.folder_log.proofs.Drafting.{draft_passes, begun_sound, gone_sound}
use Rattle.folder_log.proofs.folder_log.FolderLogChangeLog.begin_snapshot.Goals as goal

pub returns-in-Ok-clause-any_moment : goal.returns-in-Ok-clause-any_moment
returns-in-Ok-clause-any_moment g c = draft_passes c.args.self.now.history.log c.begin_draft-in-Ok.new.self.log [] c.begin_draft-in-Ok.ensures.exact

pub returns-in-Ok-clause-still_sound : goal.returns-in-Ok-clause-still_sound
returns-in-Ok-clause-still_sound g c =
    begun_sound (log_parts c.args.self.now) c.eight_bytes-self.result (disk_history c.begin_draft.new.self) c.begin_draft-in-Ok.new.self.log c.requires.is_sound c.eight_bytes-self.ensures.marked c.in-Ok.ensures.ok c.begin_draft-in-Ok.ensures.exact

pub returns-in-Err-clause-any_moment : goal.returns-in-Err-clause-any_moment
returns-in-Err-clause-any_moment g c = nothing_passes c.args.self.now.history.log c.record_no_change.new.self.log c.record_no_change.ensures.exact

pub returns-in-Err-clause-still_sound : goal.returns-in-Err-clause-still_sound
returns-in-Err-clause-still_sound g c =
    gone_sound (log_parts c.args.self.now) (disk_history c.begin_draft.new.self) c.record_no_change.new.self.log c.requires.is_sound c.in-Err.ensures.err c.record_no_change.ensures.exact
