use Rattle.std.proofs.Common.{◌≡◌, ℕ, List, Option, IfOk, encode_utf8_all, refl, sym, ap, subst, ◌∙◌}
use Rattle.std.specs.Map.{lookup}
use Rattle.std.specs.Option.{option_map}
use Rattle.doc_names.specs.NameEquality.{same_id}
use Rattle.xml_tree.specs.Print.{document_print}
use Rattle.store_core.specs.declared.entry.Entry.{Entry}
use Rattle.store_core.specs.DocumentChanges.{find_document, stored_id}
use Rattle.store_core.specs.Contents.{StoredDocument}
use Rattle.store_core.specs.StoreViews.{StoreView}
use Rattle.store_core.specs.inner.StoreMemory.{stored_view}
use Rattle.store_core.proofs.Entries.{read-as}
use Rattle.store_core.proofs.store.Store.print.Goals as goal

pub returns-clause-prints_document : goal.returns-clause-prints_document
returns-clause-prints_document c =
    let es = c.self.inside.documents.entries in
    let doc = c.args.doc.now in
    let of_held : StoredDocument → List ℕ = λ h. encode_utf8_all (document_print h.tree) in
    let of_entry : Entry → List ℕ = λ v. encode_utf8_all (document_print v.tree.root) in
    let same : option_map of_entry (lookup (same_id doc) es) ≡ option_map of_held (find_document stored_id c.args.self.now.content.documents doc) =
    sym (read-as (same_id doc) stored_view stored_id (λ e. refl) of_held of_entry (λ e. refl) es) ∙ ap (λ (s : StoreView). option_map of_held (find_document stored_id s.content.documents doc)) c.self.view_is in
    subst (λ (o : Option (List ℕ)). IfOk c.stored_print.result (λ print. print ≡ o)) same c.stored_print.ensures.prints_document
