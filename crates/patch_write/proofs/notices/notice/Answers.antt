use Rattle.std.proofs.Common.{◌≡◌, [], IfOk, encode_utf8_all, refl, subst}
use Rattle.xml_tree.specs.Tree.{Tree}
use Rattle.doc_names.specs.DocIds.{id_text}
use Rattle.xml_tree.specs.Print.{document_print}
use Rattle.patch_rules.specs.Notices.{diff}
use Rattle.patch_write.specs.inner.Modes.{reported_notes}
use Rattle.patch_write.proofs.Built.{notice_is}
use Rattle.patch_write.proofs.notices.notice.Goals as goal

pub returns : goal.returns
returns c = record {
  ok =
      let names = c.in_ok-names.names in
      let root = c.args.root.now in
      let is = notice_is c.args.mode names.prefix names.sel root (id_text c.args.doc.now) c.args.from (reported_notes c.args.mode c.args.notes.now) c.args.notes.now
      (diff names.prefix root []) c.in_ok-notice.notice refl c.in_ok-names.ensures.records_prefix c.in_ok-names.ensures.prints_name refl c.in_ok-notice.ensures.ok in
      subst (λ (t : Tree). IfOk c.print_document.result (λ bytes. bytes ≡ encode_utf8_all (document_print t))) is c.print_document.ensures.prints_document;
}
