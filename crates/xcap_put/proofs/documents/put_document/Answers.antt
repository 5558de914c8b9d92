use Rattle.request_checks.specs.MediaTypes.{document_media_type}
use Rattle.xcap_machine.specs.Answers.{reply_only}
use Rattle.xcap_machine.specs.Resources.{version_of}
use Rattle.xcap_machine.specs.DocumentWrites.{PutsBody, PutsDocument, put_answer}
use Rattle.xcap_put.proofs.Conditions.{put_goes_on, put_stops}
use Rattle.xcap_put.proofs.DecisionAnswers.{all_so, stays}
use Rattle.xcap_put.proofs.PutTrees.{there_if_tagged}
use Rattle.xcap_put.proofs.documents.put_document.Goals as goal

pub put_document_body-requires-clause-exists_iff : goal.put_document_body-requires-clause-exists_iff
put_document_body-requires-clause-exists_iff c =
    there_if_tagged c.args.store.now.content c.args.doc c.tag_of-tag.result c.is_some-exists.result c.tag_of-tag.ensures.exact c.is_some-exists.ensures

pub returns-in-Some-clause-decides_put : goal.returns-in-Some-clause-decides_put
returns-in-Some-clause-decides_put c =
    let content = c.args.store.now.content in
    let answer = put_answer content c.args.doc c.args.request.now.closes in
    stays (PutsDocument content c.args.doc c.args.usage c.args.request.now) c.args.store.now c.in-Some.reply
    (put_stops c.args.request.now (version_of content c.args.doc) c.tag_of-tag.result c.is_some-exists.result c.tag_of-tag.ensures.exact c.is_some-exists.ensures _ c.in_ok-reply.ensures.exact c.in-Some.reply
    (PutsBody c.args.usage (document_media_type c.args.doc.auid) c.args.request.now answer (reply_only c.in-Some.reply)) c.in-Some.is)

pub returns-in-None-clause-decides_put : goal.returns-in-None-clause-decides_put
returns-in-None-clause-decides_put c =
    let content = c.args.store.now.content in
    let media = document_media_type c.args.doc.auid in
    let answer = put_answer content c.args.doc c.args.request.now.closes in
    all_so (PutsBody c.args.usage media c.args.request.now answer) c.put_document_body.new.store (PutsDocument content c.args.doc c.args.usage c.args.request.now)
    (λ a is. put_goes_on c.args.request.now (version_of content c.args.doc) c.tag_of-tag.result c.is_some-exists.result c.tag_of-tag.ensures.exact c.is_some-exists.ensures _ c.in_ok-reply.ensures.exact a
    (PutsBody c.args.usage media c.args.request.now answer a) c.in-None.is is)
    c.put_document_body.result c.put_document_body.ensures.decides_by_body
