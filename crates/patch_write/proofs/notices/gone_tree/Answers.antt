use Rattle.std.proofs.Common.{ℕ, List, [], ap, ◌∙◌}
use Rattle.xml_tree.specs.Edits.{with_elem}
use Rattle.xml_tree.specs.Tree.{Tree}
use Rattle.patch_rules.specs.Notices.{diff, removed_document}
use Rattle.patch_write.proofs.notices.gone_tree.Goals as goal

pub returns : goal.returns
returns c = record {
  ok =
      let p = c.args.names.now.prefix in
      c.in_ok-push_removed_document.ensures.ok
      ∙ ap (λ (t : Tree). record t { content = with_elem (removed_document p c.args.names.now.sel c.args.from) t.content })
      (c.in_ok-notice.ensures.notice_without_documents ∙ ap (λ (r : List ℕ). diff p r []) c.text.ensures.exact);
}
