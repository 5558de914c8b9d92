use Rattle.std.proofs.Common.{sym, ◌∙◌}
use Rattle.store_core.specs.DocumentChanges.{find_document, stored_id}
use Rattle.xcap_get.proofs.LentReplyLemmas.{lends_absent_document, lends_document, lent_version, none_lent}
use Rattle.xcap_get.proofs.lent_replies.lend_document.Goals as goal

pub returns-in-None : goal.returns-in-None
returns-in-None c = record {
  lends_stored =
      let none = sym c.in-None.is ∙ c.lend.ensures.lends_version in
      lends_absent_document c.args.store.now.content c.args.doc.now c.in-User.field-0 c.args.request.now c.in-User.is (none_lent (find_document stored_id c.args.store.now.content.documents c.args.doc.now) none);
}

pub returns-in-Some : goal.returns-in-Some
returns-in-Some c = record {
  lends_stored =
      let some = sym c.in-Some.is ∙ c.lend.ensures.lends_version in
      let held = lent_version (find_document stored_id c.args.store.now.content.documents c.args.doc.now) c.in-Some.body c.in-Some.tag some in
      lends_document c.args.store.now.content c.args.doc.now c.in-User.field-0 c.args.request.now c.in-User.is held.0 c.in-Some.tag c.in-Some.body c.document_media_type.result c.lend_found.result held.1 held.2
      c.document_media_type.ensures.exact c.lend_found.ensures.lends_found;
}
