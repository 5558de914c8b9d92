use Rattle.std.proofs.Common.{chars}
use Rattle.xcap_get.proofs.FlatDocuments.{flat_list_reply, without_document, without_list}
use Rattle.xcap_get.proofs.flat_lists.build_flat_document.Goals as goal

pub returns-in_err-uris : goal.returns-in_err-uris
returns-in_err-uris c = record {
  list_document =
      without_list c.args.root.now c.args.store.now.content c.args.doc.now (chars c.as_str.result.now) c.args.service.now c.as_str.ensures.same_chars c.from_residual.result c.in_err-uris.field-0.0 c.from_residual.ensures.1
      c.in_err-uris.ensures.as_specified;
}

pub returns-in_err-made : goal.returns-in_err-made
returns-in_err-made c = record {
  list_document =
      without_document c.args.root.now c.args.store.now.content c.args.doc.now (chars c.as_str.result.now) c.args.service.now c.as_str.ensures.same_chars c.from_residual-in_err-made.result c.in_ok-uris.uris c.as_slice.result.now c.in_err-made.field-0.0
      c.from_residual-in_err-made.ensures.1 c.as_slice.ensures.exact c.in_ok-uris.ensures.as_specified c.in_err-made.ensures.list_document;
}

pub returns : goal.returns
returns c = record {
  list_document =
      flat_list_reply c.args.root.now c.args.store.now.content c.args.doc.now (chars c.as_str.result.now) c.args.service.now c.as_str.ensures.same_chars c.in_ok-uris.uris c.as_slice.result.now c.in_ok-made.made c.as_slice.ensures.exact
      c.in_ok-uris.ensures.as_specified c.in_ok-made.ensures.list_document;
}
