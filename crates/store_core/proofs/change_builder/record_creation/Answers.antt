use Rattle.std.proofs.Common.{sym, ap, subst, ◌∙◌}
use Rattle.usage_docs.specs.Services.{document_len}
use Rattle.edit_ops.specs.InsertedElements.{InsertsElement, inserted_element}
use Rattle.edit_ops.specs.Notes.{Note}
use Rattle.store_core.specs.declared.step.EntryStep.TheVariants.{Make}
use Rattle.store_core.specs.inner.Prints.{IsPrintOf}
use Rattle.store_core.specs.StoreViews.{new_entry}
use Rattle.store_core.proofs.change_builder.record_creation.Goals as goal

pub creation_step-requires-clause-brings_part : goal.creation_step-requires-clause-brings_part
creation_step-requires-clause-brings_part c = subst (λ (n : Note). InsertsElement n.change) (sym (c.in_ok-note.ensures.any_tree c.args.root)) tt

pub creation_step-requires-clause-print_of_part : goal.creation_step-requires-clause-print_of_part
creation_step-requires-clause-print_of_part c =
    subst (λ (n : Note). IsPrintOf (inserted_element n.change) c.args.print) (sym (c.in_ok-note.ensures.any_tree c.args.root)) c.requires.print_of_part

pub creation_step-requires-clause-length_exact : goal.creation_step-requires-clause-length_exact
creation_step-requires-clause-length_exact c = c.requires.length_exact ∙ ap (λ (n : Note). document_len (inserted_element n.change)) (sym (c.in_ok-note.ensures.any_tree c.args.root))

pub returns : goal.returns
returns c =
    let note = c.in_ok-note.ensures.any_tree c.args.root in
    record {
      creation_record = note;
      makes_document = c.in_ok-step.ensures.makes_document ∙ ap (λ (n : Note). Make c.args.doc.now (new_entry c.args.number (inserted_element n.change))) note;
    }
