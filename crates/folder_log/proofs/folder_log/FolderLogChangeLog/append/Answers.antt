use Rattle.folder_log.proofs.Appending.{healed_only, healed_then}
use Rattle.folder_log.proofs.folder_log.FolderLogChangeLog.append.Goals as goal

pub returns-in-Err-clause-any_moment : goal.returns-in-Err-clause-any_moment
returns-in-Err-clause-any_moment g c = healed_only c.args.self.now.history.log c.cut_torn_write.new.self.history.log c.args.change.now c.cut_torn_write.ensures.any_moment

pub returns-in-Err-commit-clause-any_moment : goal.returns-in-Err-commit-clause-any_moment
returns-in-Err-commit-clause-any_moment g c =
    healed_then c.args.self.now.history.log c.cut_torn_write.new.self.history.log c.commit.new.self.history.log c.args.change.now c.in_default.ensures.taken_back c.cut_torn_write.ensures.any_moment c.commit.ensures.any_moment

pub returns-clause-any_moment : goal.returns-clause-any_moment
returns-clause-any_moment g c =
    healed_then c.args.self.now.history.log c.cut_torn_write.new.self.history.log c.commit.new.self.history.log c.args.change.now c.in_default.ensures.taken_back c.cut_torn_write.ensures.any_moment c.commit.ensures.any_moment
