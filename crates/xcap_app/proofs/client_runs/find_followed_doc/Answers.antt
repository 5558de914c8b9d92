use Rattle.std.proofs.Common.{◌∙◌}
use Rattle.xcap_app.proofs.Documents.{meant_by}
use Rattle.xcap_app.proofs.client_runs.find_followed_doc.Goals as goal

pub returns-in-Ok : goal.returns-in-Ok
returns-in-Ok c = record {
  means_document =
      meant_by c.args.root.now c.args.target.now c.as_bytes.result.now c.in-Ok.target _ c.copy_doc_id-doc.result (c.as_bytes.ensures.value ∙ c.as_str.ensures.utf8_bytes)
      c.in-Ok.ensures.rules_answer c.document_to_follow.ensures.exact c.copy_doc_id-doc.ensures.ok;
}
