use Rattle.std.proofs.Common.{◌≡◌, [], ◌∷◌, IfOk, encode_utf8_all, subst, ◌∙◌}
use Rattle.xml_tree.specs.Tree.{Tree}
use Rattle.xml_tree.specs.Print.{document_print}
use Rattle.patch_rules.specs.Notices.{diff, removed_document}
use Rattle.patch_write.proofs.notices.gone_notice.Goals as goal

pub returns : goal.returns
returns c = record {
  ok =
      let names = c.in_ok-names.ensures in
      let is = c.in_ok-notice.ensures.ok ∙ (λ i. diff (names.first_prefix i) c.args.root.now (removed_document (names.first_prefix i) (names.prints_name i) c.args.from ∷ [])) in
      subst (λ (t : Tree). IfOk c.print_document.result (λ bytes. bytes ≡ encode_utf8_all (document_print t))) is c.print_document.ensures.prints_document;
}
