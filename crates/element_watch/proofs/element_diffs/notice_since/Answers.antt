use Rattle.std.proofs.Common.{sym, ◌∙◌}
use Rattle.element_watch.proofs.ElementFindings.{notice_text}
use Rattle.element_watch.proofs.element_diffs.notice_since.Goals as goal

pub returns : goal.returns
returns c = record {
  diff_text =
      notice_text c.args.root.now c.args.store.now.content c.args.watch.doc.now c.args.watch.selector.now c.args.watch.raw.now c.args.notes.now c.in-Some-stored_usage.usage c.in-Some.tree.now c.in-Some._tag c.state_of-state.result c.notice_of_element.result
      (rw c.in-Some.is at c.get.ensures.stored_version) (sym c.stored_usage.ensures.exact ∙ c.in-Some-stored_usage.is) c.state_of-state.ensures.exact c.notice_of_element.ensures.ok;
}
