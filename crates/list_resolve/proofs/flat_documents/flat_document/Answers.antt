use Rattle.std.proofs.Common.{◌≤◌, sym, arith}
use Rattle.list_resolve.specs.declared.flat_documents.TheConstants.{DOCUMENT_LIMIT}
use Rattle.list_resolve.proofs.Documents.{not_too_large, too_large}
use Rattle.list_resolve.proofs.flat_documents.flat_document.Goals as goal

pub returns-then-len-gt-DOCUMENT_LIMIT : goal.returns-then-len-gt-DOCUMENT_LIMIT
returns-then-len-gt-DOCUMENT_LIMIT c = record {
  list_document =
      sym (too_large c.args.uris.now c.in_ok-root.root c.document_len-len.result c.in_ok-root.ensures.ok c.document_len-len.ensures.exact c.if-len-gt-DOCUMENT_LIMIT.true);
}

pub returns : goal.returns
returns c = record {
  list_document =
      let few = c.if-len-gt-DOCUMENT_LIMIT.false in
      let le : c.document_len-len.result ≤ DOCUMENT_LIMIT = omega arith in
      not_too_large c.args.uris.now c.in_ok-root.root c.document_len-len.result c.in_ok-root.ensures.ok c.document_len-len.ensures.exact le;
}
