use Rattle.std.proofs.Common.{Option, sym, subst}
use Rattle.http_wire.specs.declared.close_reason.CloseReason.{CloseReason}
use Rattle.http_serve.specs.inner.OpenFaultCounts.{CountsFaultOfEnding}
use Rattle.http_serve.specs.inner.SentReplies.{SendsReply}
use Rattle.http_serve.proofs.SentLemmas.{counts_so, sends_so}
use Rattle.http_serve.proofs.sent_replies.send_reply.Goals as goal

pub returns-clause-sends : goal.returns-clause-sends
returns-clause-sends g c =
    let old = g.S.Line.state c.args.sink.now in
    let new = g.S.Line.state c.write_reply_through-written.new.sink in
    subst (λ (e : Option CloseReason). SendsReply e c.args.reply.now old.taken new.taken) (sym c.ending_after.ensures.exact)
    (sends_so c.write_reply_through-written.result c.closes.result c.args.reply.now old.taken new.taken c.closes.ensures.exact c.write_reply_through-written.ensures.all_or_prefix)

pub returns-clause-counts_faults : goal.returns-clause-counts_faults
returns-clause-counts_faults g c =
    let old = g.S.Line.state c.args.sink.now in
    let new = g.S.Line.state c.write_reply_through-written.new.sink in
    subst (λ (e : Option CloseReason). CountsFaultOfEnding e old new) (sym c.ending_after.ensures.exact)
    (counts_so c.write_reply_through-written.result c.closes.result old new c.write_reply_through-written.ensures.only_writes)
