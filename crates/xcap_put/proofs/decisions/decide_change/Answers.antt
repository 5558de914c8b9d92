use Rattle.std.proofs.Common.{ap, ◌∙◌}
use Rattle.edit_ops.specs.Notes.{Note}
use Rattle.xcap_machine.specs.DocumentWrites.{put_reply}
use Rattle.xcap_put.proofs.DecisionAnswers.{makes, refuses}
use Rattle.xcap_put.proofs.decisions.decide_change.Goals as goal

pub returns-in-Ok-clause-decides_change : goal.returns-in-Ok-clause-decides_change
returns-in-Ok-clause-decides_change c =
    makes c.args.store.now.content c.args.doc c.args.change c.args.closes (put_reply c.args.exists c.args.closes) c.prepare.new.self c.put_reply.result c.in_ok-prepared.field-0 c.in-Ok.prepared c.in-Ok.is c.in_ok-prepared.ensures.prepared_change c.in_ok-prepared.ensures.prepared_is_ready
    ((rw c.next.ensures.tag_after at c.put_reply.ensures.exact) ∙ ap (λ (n : Note). put_reply c.args.exists c.args.closes n) c.note.ensures.exact)

pub returns-in_ok-reply-in-Err-clause-decides_change : goal.returns-in_ok-reply-in-Err-clause-decides_change
returns-in_ok-reply-in-Err-clause-decides_change c =
    refuses c.args.store.now.content c.args.doc c.args.change c.args.closes (put_reply c.args.exists c.args.closes) c.prepare.new.self c.in_ok-reply-in-Err.reply c.in_ok-prepared.field-0 c.in-Err.refusal c.in-Err.is c.in_ok-prepared.ensures.first_refusal c.in_ok-reply-in-Err.ensures.ok
