use Rattle.std.proofs.Common.{ℕ, ap, ◌∙◌}
use Rattle.patch_rules.specs.Notices.{document, operations}
use Rattle.patch_write.proofs.Built.{all_told}
use Rattle.patch_write.proofs.notices.push_aggregate_document.Goals as goal

pub returns : goal.returns
returns c = record {
  ok =
      let p = c.args.names.now.prefix in
      let sel = c.args.names.now.sel in
      let ns = c.args.notes.now in
      all_told p sel c.args.from ns c.in_ok-made.made c.args.notice.now c.push_elem.new.self c.requires
      (c.in_ok-made.ensures.ok ∙ ap (λ (to : ℕ). document p sel c.args.from to (operations p ns)) c.last_tag_of_notes-to.ensures.exact) c.in_ok-push_elem.ensures.adds_element;
}
