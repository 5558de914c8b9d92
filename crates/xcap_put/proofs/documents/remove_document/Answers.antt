use Rattle.edit_ops.specs.declared.change.Change.TheVariants.{RemoveDocument}
use Rattle.xcap_machine.specs.DocumentWrites.{delete_reply}
use Rattle.xcap_put.proofs.DecisionAnswers.{makes, refuses}
use Rattle.xcap_put.proofs.documents.remove_document.Goals as goal

pub returns-in-Ok-clause-decides_removal : goal.returns-in-Ok-clause-decides_removal
returns-in-Ok-clause-decides_removal c =
    makes c.args.store.now.content c.args.doc RemoveDocument c.args.closes (delete_reply c.args.closes) c.prepare.new.self c.fixed.result c.in_ok-prepared.field-0 c.in-Ok.prepared c.in-Ok.is c.in_ok-prepared.ensures.prepared_change c.in_ok-prepared.ensures.prepared_is_ready c.fixed.ensures.exact

pub returns-in_ok-reply-in-Err-clause-decides_removal : goal.returns-in_ok-reply-in-Err-clause-decides_removal
returns-in_ok-reply-in-Err-clause-decides_removal c =
    refuses c.args.store.now.content c.args.doc RemoveDocument c.args.closes (delete_reply c.args.closes) c.prepare.new.self c.in_ok-reply-in-Err.reply c.in_ok-prepared.field-0 c.in-Err.refusal c.in-Err.is c.in_ok-prepared.ensures.first_refusal c.in_ok-reply-in-Err.ensures.ok
