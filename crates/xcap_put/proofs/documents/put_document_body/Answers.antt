use Rattle.std.proofs.Common.{◌≡◌, sym, subst}
use Rattle.xcap_machine.specs.Answers.{Answer}
use Rattle.xcap_machine.specs.DocumentWrites.{PutsBody, put_answer}
use Rattle.request_checks.specs.MediaTypes.{document_media_type}
use Rattle.xcap_put.proofs.BodyReading.{body_comes}
use Rattle.xcap_put.proofs.DecisionAnswers.{all_so, stays}
use Rattle.xcap_put.proofs.documents.put_document_body.Goals as goal

pub returns-in-Refused-clause-decides_by_body : goal.returns-in-Refused-clause-decides_by_body
returns-in-Refused-clause-decides_by_body c =
    let media = document_media_type c.args.doc.auid in
    let answer = put_answer c.args.store.now.content c.args.doc c.args.request.now.closes in
    let came = body_comes c.args.usage c.document_media_type-media.result media c.args.request.now _ _ c.document_media_type-media.ensures.exact c.in-Refused.is c.in_ok-reply.ensures.comes_of_body in
    stays (PutsBody c.args.usage media c.args.request.now answer) c.args.store.now c.in-Refused.reply (came answer)

pub returns-in-Document-clause-decides_by_body : goal.returns-in-Document-clause-decides_by_body
returns-in-Document-clause-decides_by_body c =
    let media = document_media_type c.args.doc.auid in
    let answer = put_answer c.args.store.now.content c.args.doc c.args.request.now.closes in
    let came = body_comes c.args.usage c.document_media_type-media.result media c.args.request.now _ _ c.document_media_type-media.ensures.exact c.in-Document.is c.in_ok-reply.ensures.comes_of_body in
    all_so (λ a. a ≡ answer c.in-Document.root) c.put_tree.new.store (PutsBody c.args.usage media c.args.request.now answer)
    (λ a is. subst (λ (x : Answer). PutsBody c.args.usage media c.args.request.now answer x) (sym is) (came.1 answer)) c.put_tree.result c.put_tree.ensures.decides_put
