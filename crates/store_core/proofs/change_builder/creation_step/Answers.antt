use Rattle.std.proofs.Common.{◌≡◌, sym, ap, subst, ◌∙◌}
use Rattle.xml_tree.specs.Tree.{Tree}
use Rattle.usage_docs.specs.Services.{document_len}
use Rattle.doc_names.specs.declared.doc_id.DocId.{DocId}
use Rattle.edit_ops.specs.InsertedElements.{inserted_element}
use Rattle.store_core.specs.declared.entry.Entry.{Entry}
use Rattle.store_core.specs.declared.step.EntryStep.TheVariants.{Make}
use Rattle.store_core.specs.inner.Prints.{IsPrintOf}
use Rattle.store_core.specs.StoreViews.{new_entry}
use Rattle.store_core.proofs.change_builder.creation_step.Goals as goal

pub of-tree-requires : goal.of-tree-requires
of-tree-requires c = subst (λ (t : Tree). IsPrintOf t c.args.print) (sym c.in_ok-noted.ensures.ok) c.requires.print_of_part

pub new-requires : goal.new-requires
new-requires c =
    let tree : c.of-tree.result ≡ inserted_element c.args.note.now.change = c.of-tree.ensures.exact ∙ c.in_ok-noted.ensures.ok in
    c.requires.length_exact ∙ ap (λ (t : Tree). document_len t) (sym tree)

pub returns : goal.returns
returns c = record {
  makes_document =
      let tree : c.of-tree.result ≡ inserted_element c.args.note.now.change = c.of-tree.ensures.exact ∙ c.in_ok-noted.ensures.ok in
      ap (λ (d : DocId). Make d c.in_ok-entry.entry) c.in_ok-key.ensures.equal_copy
      ∙ ap (λ (e : Entry). Make c.args.doc.now e) (c.in_ok-entry.ensures.ok ∙ ap (λ (t : Tree). new_entry c.args.number t) tree);
}
