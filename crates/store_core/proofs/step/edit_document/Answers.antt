use Rattle.std.proofs.Common.{◌≡◌, Some, refl, sym, subst, ◌∙◌}
use Rattle.std.specs.Map.{lookup}
use Rattle.doc_names.specs.NameEquality.{same_id}
use Rattle.edit_ops.specs.Changes.{FitsTree}
use Rattle.store_core.specs.declared.entry.Entry.{Entry}
use Rattle.store_core.specs.TreeChanges.{IsUnsharedIfInPlace, IsStagedTreeFor}
use Rattle.store_core.proofs.DocumentMaps.{exchanged-in, looked-up, one-value}
use Rattle.store_core.proofs.step.edit_document.Goals as goal

pub update_entry-requires-clause-fits : goal.update_entry-requires-clause-fits
update_entry-requires-clause-fits c =
    let r = c.requires in
    subst (λ (v : Entry). FitsTree v.tree.root c.args.note.change) (one-value c.args.doc.now c.args.documents.now.entries r.0 c.in-Some.entry.now r.1 c.in-Some.ensures.value) r.2

pub update_entry-requires-clause-change_staged : goal.update_entry-requires-clause-change_staged
update_entry-requires-clause-change_staged c =
    let r = c.requires in
    subst (λ (v : Entry). IsStagedTreeFor v.tree.root c.args.note.change c.args.staged) (one-value c.args.doc.now c.args.documents.now.entries r.0 c.in-Some.entry.now r.1 c.in-Some.ensures.value) r.3

pub update_entry-requires-clause-tree_owned : goal.update_entry-requires-clause-tree_owned
update_entry-requires-clause-tree_owned c =
    let r = c.requires in
    subst (λ (v : Entry). IsUnsharedIfInPlace c.args.staged v.tree.own) (one-value c.args.doc.now c.args.documents.now.entries r.0 c.in-Some.entry.now r.1 c.in-Some.ensures.value) r.4

pub returns : goal.returns
returns c = record {
  renews_entry =
      let es = c.args.documents.now.entries in
      let doc = c.args.doc.now in
      let w = c.update_entry.new.entry in
      let there : lookup (same_id doc) es ≡ Some c.in-Some.entry.now = sym (looked-up doc es) ∙ sym c.in-Some.ensures.value in
      (c.in-Some.entry.now, w, there, c.update_entry.ensures.renewed_entry, (c.get_mut.follows.holds w).0 ∙ exchanged-in doc es w c.get_mut.ensures.unique, refl);
}
