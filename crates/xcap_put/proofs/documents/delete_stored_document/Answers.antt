use Rattle.std.proofs.Common.{◌≡◌}
use Rattle.edit_ops.specs.declared.change.Change.TheVariants.{RemoveDocument}
use Rattle.store_core.specs.ChangePreconditions.{MayRequest}
use Rattle.xcap_machine.specs.DocumentWrites.{DeletesDocument, change_answer, delete_reply}
use Rattle.xcap_machine.proofs.PutPremises.{asks_to_delete}
use Rattle.xcap_put.proofs.Conditions.{asked_to_delete, delete_goes_on, delete_stops}
use Rattle.xcap_put.proofs.DecisionAnswers.{all_so, stays}
use Rattle.xcap_put.proofs.documents.delete_stored_document.Goals as goal

pub returns-in-Some-clause-decides_removal : goal.returns-in-Some-clause-decides_removal
returns-in-Some-clause-decides_removal c =
    let content = c.args.store.now.content in
    stays (DeletesDocument content c.args.doc c.args.request.now) c.args.store.now c.in-Some.reply
    (delete_stops content c.args.doc c.args.request.now c.args.tag c.requires.tag_of_version _ c.in_ok-reply.ensures.exact c.in-Some.reply c.in-Some.is)

pub remove_document-requires : goal.remove_document-requires
remove_document-requires c =
    let content = c.args.store.now.content in
    record { stored_there = asked_to_delete content c.args.doc c.args.request.now c.args.tag c.requires.tag_of_version (MayRequest content c.args.doc RemoveDocument) (λ t is. asks_to_delete content c.args.doc t c.args.tag is) }

pub returns-in-None-clause-decides_removal : goal.returns-in-None-clause-decides_removal
returns-in-None-clause-decides_removal c =
    let content = c.args.store.now.content in
    let closes = c.args.request.now.closes in
    all_so (λ a. a ≡ change_answer content c.args.doc RemoveDocument closes (delete_reply closes)) c.remove_document.new.store (DeletesDocument content c.args.doc c.args.request.now)
    (delete_goes_on content c.args.doc c.args.request.now c.args.tag c.requires.tag_of_version _ c.in_ok-reply.ensures.exact c.in-None.is) c.remove_document.result c.remove_document.ensures.decides_removal
