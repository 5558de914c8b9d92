use Rattle.std.proofs.Common.{[], ◌∷◌, ◌++◌, chars, codes, ap, ◌∙◌}
use Rattle.xml_names.specs.ExpandedNames.{name_from_parts}
use Rattle.xml_names.specs.Scopes.{decl_from_parts}
use Rattle.xml_tree.specs.Tree.{Tree, last, tree_of}
use Rattle.edit_ops.specs.DiffOperations.{plain_attr}
use Rattle.patch_rules.specs.Notices.{diff_uri}
use Rattle.patch_rules.proofs.Words.{diff as diff_word}
use Rattle.patch_rules.proofs.diff_elements.empty_notice.Goals as goal

pub returns : goal.returns
returns c = record {
  notice_without_documents =
      let prefix = c.args.prefix.now in
      let root = plain_attr (codes "xcap-root") (chars c.args.root.now ++ codes "/") in
      c.in_ok-declare_diff_root.ensures.declares_and_names
      ∙ ap (λ (t : Tree). record t { decls = t.decls ++ decl_from_parts prefix diff_uri ∷ []; attrs = t.attrs ++ root ∷ [] }) c.in_ok-made.ensures.ok
      ∙ (λ i. tree_of (name_from_parts prefix (diff_word i)) (decl_from_parts prefix diff_uri ∷ []) (root ∷ []) (last []));
}
