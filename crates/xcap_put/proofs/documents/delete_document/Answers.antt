use Rattle.xcap_machine.specs.DocumentWrites.{DeletesDocument}
use Rattle.xcap_put.proofs.Conditions.{delete_absent}
use Rattle.xcap_put.proofs.DecisionAnswers.{stays}
use Rattle.xcap_put.proofs.documents.delete_document.Goals as goal

pub returns-in-None-clause-decides_removal : goal.returns-in-None-clause-decides_removal
returns-in-None-clause-decides_removal c =
    let content = c.args.store.now.content in
    stays (DeletesDocument content c.args.doc c.args.request.now) c.args.store.now c.fixed.result
    (delete_absent content c.args.doc c.args.request.now c.fixed.result c.in-None.ensures.exact c.fixed.ensures.exact)
