use Rattle.std.proofs.Common.{ℕ, List, [], ap, ◌∙◌}
use Rattle.xml_tree.specs.Tree.{Tree}
use Rattle.patch_rules.specs.Notices.{diff}
use Rattle.patch_rules.specs.inner.AppendedElements.{with_elements}
use Rattle.patch_write.specs.inner.Modes.{mode_documents}
use Rattle.patch_write.proofs.notices.notice_tree.Goals as goal

pub returns : goal.returns
returns c = record {
  ok =
      let p = c.args.names.now.prefix in
      c.in_ok-push_documents.ensures.ok
      ∙ ap (λ (t : Tree). with_elements (mode_documents c.args.mode p c.args.names.now.sel c.args.from c.args.notes.now) t)
      (c.in_ok-notice.ensures.notice_without_documents ∙ ap (λ (r : List ℕ). diff p r []) c.text.ensures.exact);
}
