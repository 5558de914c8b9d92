use Rattle.std.proofs.Common.{◌≡◌, ◌++◌, ℕ, List, [], IfOk, codes, encode_utf8_all, subst, ap, ◌∙◌}
use Rattle.xml_tree.specs.Tree.{Tree}
use Rattle.doc_names.specs.DocIds.{id_text}
use Rattle.xml_tree.specs.Print.{document_print}
use Rattle.patch_rules.specs.Notices.{diff}
use Rattle.element_watch.proofs.BuiltElements.{notice_is}
use Rattle.element_watch.proofs.element_states.notice_of_element.Goals as goal

pub returns : goal.returns
returns c = record {
  ok =
      let p = c.in_ok-prefix.prefix in
      let is = notice_is c.args.state c.in_ok-prefix.prefix c.args.root.now c.in_ok-sel.sel (id_text c.args.doc.now ++ codes "/~~/" ++ c.args.raw.now) c.in_ok-notice.notice c.push_state.new.notice c.in_ok-prefix.ensures.same_chars
      c.in_ok-sel.ensures.ok (c.in_ok-notice.ensures.notice_without_documents ∙ ap (λ (r : List ℕ). diff p r []) c.text.ensures.exact) c.in_ok-push_state.ensures.ok in
      subst (λ (t : Tree). IfOk c.print_document.result (λ bytes. bytes ≡ encode_utf8_all (document_print t))) is c.print_document.ensures.prints_document;
}
