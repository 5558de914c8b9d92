use Rattle.xcap_laws.proofs.JoinedReplies.{same_replies}
use Rattle.xcap_laws.proofs.reply_laws.joined_replies_part_in_one_way.Goals as goal

pub returns : goal.returns
returns c = record { same_replies = same_replies }
