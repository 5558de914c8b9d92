use Rattle.std.proofs.Common.{sym}
use Rattle.doc_names.specs.Usages.{usage_of}
use Rattle.xcap_get.proofs.LentReplyLemmas.{lends_absent_node, lends_node, sound_short}
use Rattle.xcap_get.proofs.lent_replies.lend_element.Goals as goal

pub returns-in-None : goal.returns-in-None
returns-in-None c = record {
  lends_stored =
      lends_absent_node c.args.store.now.content c.args.doc.now c.in-User.field-0 c.args.request.now c.in-User.is c.args.selector.now c.requires.of_element (sym (rw c.in-None.is at c.get.ensures.stored_version));
}

pub returns-in-Some : goal.returns-in-Some
returns-in-Some c = record {
  lends_stored =
      lends_node c.args.store.now.content c.args.doc.now c.in-User.field-0 c.args.request.now c.in-User.is c.args.selector.now c.requires.of_element c.in-Some.root.now c.in-Some.tag c.lend_selected.result
      (sym (rw c.in-Some.is at c.get.ensures.stored_version)) c.lend_selected.ensures.lends_found;
}

pub lend_selected-requires-clause-length_bounded : goal.lend_selected-requires-clause-length_bounded
lend_selected-requires-clause-length_bounded c = sound_short (usage_of c.args.doc.now.auid) c.in-Some.root.now c.in-Some.ensures.tree_is_sound
