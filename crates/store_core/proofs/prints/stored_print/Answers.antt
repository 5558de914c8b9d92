use Rattle.std.proofs.Common.{◌≡◌, ℕ, List, Option, Some, IfOk, encode_utf8_all, sym, ap, subst, ◌∙◌}
use Rattle.std.specs.Map.{lookup, set_value}
use Rattle.std.specs.Option.{option_map}
use Rattle.doc_names.specs.NameEquality.{same_id}
use Rattle.doc_names.specs.contracts.doc_id.DocIdPartialEq.TheImpl.{eq-value}
use Rattle.xml_tree.specs.Print.{document_print}
use Rattle.store_core.specs.declared.entry.Entry.{Entry}
use Rattle.store_core.proofs.DocumentMaps.{looked-up, same-set}
use Rattle.store_core.proofs.prints.stored_print.Goals as goal

pub returns-in-Some-clause-prints_document : goal.returns-in-Some-clause-prints_document
returns-in-Some-clause-prints_document c =
    let es = c.args.documents.now.entries in
    let doc = c.args.doc.now in
    let there : Some c.in-Some.entry.now ≡ lookup (same_id doc) es = c.in-Some.ensures.value ∙ looked-up doc es in
    subst (λ (o : Option Entry). IfOk c.print_of.result (λ print. print ≡ option_map {T = Entry} {U = List ℕ} (λ v. encode_utf8_all (document_print v.tree.root)) o)) there c.print_of.ensures.prints_document

pub returns-in-Some-clause-contents_unchanged : goal.returns-in-Some-clause-contents_unchanged
returns-in-Some-clause-contents_unchanged c =
    let es = c.args.documents.now.entries in
    let doc = c.args.doc.now in
    (c.get_mut.follows.holds c.print_of.new.entry).0
    ∙ ap (λ (v : Entry). set_value (eq-value.it doc) es v) c.print_of.ensures.contents_unchanged
    ∙ same-set (eq-value.it doc) es c.in-Some.entry.now (sym c.in-Some.ensures.value)
