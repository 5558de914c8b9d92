use Rattle.std.proofs.Common.{◌≡◌, [], ◌∷◌, ◌++◌, chars, codes, ap, ◌∙◌}
use Rattle.std.proofs.lemmas.Result.{IfOk-equal}
use Rattle.xml_names.specs.Scopes.{decl_from_parts}
use Rattle.xml_tree.specs.Tree.{Tree}
use Rattle.edit_ops.specs.DiffOperations.{plain_attr}
use Rattle.patch_rules.specs.Notices.{diff_uri}
use Rattle.patch_rules.proofs.Words.{root as root_word, uri}
use Rattle.patch_rules.proofs.diff_elements.declare_diff_root.Goals as goal

pub returns : goal.returns
returns c = record {
  declares_and_names =
      let old : Tree = c.args.notice.now in
      let text = c.in_ok-root_with_slash.field-0 in
      let prefix = c.in_ok-prefix.ensures.equal_text in
      let spelled : c.in_ok-uri.uri ≡ diff_uri = c.in_ok-uri.ensures.same_chars ∙ uri in
      let slashed = c.in_ok-root_with_slash.ensures.ok in
      IfOk-equal c.push_plain_attr.result c.push_plain_attr.new.element _ _ c.push_plain_attr.ensures.appended
      (ap (λ (t : Tree). record t { attrs = t.attrs ++ plain_attr (chars (codes "xcap-root")) text ∷ [] }) c.in_ok-push_decl.ensures.adds_declaration
      ∙ (λ i. record old { decls = old.decls ++ decl_from_parts (prefix i) (spelled i) ∷ []; attrs = old.attrs ++ plain_attr (root_word i) (slashed i) ∷ [] }));
}
