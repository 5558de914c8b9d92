use Rattle.xcap_get.proofs.LentReplyLemmas.{lends_stopped, lends_text}
use Rattle.xcap_get.proofs.lent_replies.lend_found.Goals as goal

pub returns-in-Some : goal.returns-in-Some
returns-in-Some c = record {
  lends_found = lends_stopped c.args.body c.args.tag c.args.media c.args.request.now c.in-Some.reply (rw c.in-Some.is at c.in_ok-reply.ensures.exact);
}

pub returns-in-None : goal.returns-in-None
returns-in-None c = record {
  lends_found = lends_text c.args.body c.args.tag c.args.media c.args.request.now c.new.result (rw c.in-None.is at c.in_ok-reply.ensures.exact) c.new.ensures.exact;
}
