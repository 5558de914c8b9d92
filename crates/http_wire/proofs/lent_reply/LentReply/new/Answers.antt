use Rattle.std.proofs.Common.{ℕ, None, Some, ap, ◌∙◌}
use Rattle.reply_text.specs.ReplyHeads.{SentReply, sent_reply}
use Rattle.http_wire.proofs.lent_reply.LentReply.new.Goals as goal

pub returns : goal.returns
returns c = record {
  exact =
      ap (λ (h : SentReply). let r : SentReply = record { status = h.status; closes = h.closes; head = h.head; body = c.args.body } in r) c.lent.ensures.exact
      ∙ ap (λ (n : ℕ). sent_reply (record { status = c.args.status; tag = c.args.tag; read_only = None; media = Some c.args.media; size = n; closes = c.args.close }) c.args.body) c.len.ensures.exact;
}
