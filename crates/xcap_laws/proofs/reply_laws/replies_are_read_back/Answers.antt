use Rattle.xcap_laws.proofs.ReplyKinds.{head_alone, is_read_back, is_refused}
use Rattle.xcap_laws.proofs.reply_laws.replies_are_read_back.Goals as goal

pub returns-clause-read_back : goal.returns-clause-read_back
returns-clause-read_back c = is_read_back

pub returns-clause-longer_refused : goal.returns-clause-longer_refused
returns-clause-longer_refused c = is_refused

pub returns-clause-head_alone : goal.returns-clause-head_alone
returns-clause-head_alone c = head_alone
