use Rattle.xcap_server.proofs.LentAnswers.{lends_target_document, lends_target_node}
use Rattle.xcap_server.proofs.lent_answers.lend_target.Goals as goal

pub returns-in-Document : goal.returns-in-Document
returns-in-Document c = record {
  lends_read = lends_target_document c.args.target.now c.in-Document.doc c.args.store.now.content c.args.request.now c.lend_document.result c.in-Document.is c.lend_document.ensures.lends_stored;
}

pub returns-in-Node : goal.returns-in-Node
returns-in-Node c = record {
  lends_read =
      lends_target_node c.args.target.now c.in-Node.doc c.args.store.now.content c.args.request.now c.in-Node.selector c.lend_node.result c.in-Node.is c.lend_node.ensures.lends_stored;
}
