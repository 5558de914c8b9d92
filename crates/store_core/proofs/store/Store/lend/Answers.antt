use Rattle.std.proofs.Common.{◌≡◌, ℕ, List, Option, None, Some, encode_utf8_all, refl, sym, ap, ◌∙◌}
use Rattle.std.specs.Map.{lookup}
use Rattle.std.specs.Option.{option_map}
use Rattle.doc_names.specs.NameEquality.{same_id}
use Rattle.xml_tree.specs.Print.{document_print}
use Rattle.store_core.specs.declared.entry.Entry.{Entry}
use Rattle.store_core.specs.DocumentChanges.{find_document, stored_id}
use Rattle.store_core.specs.Contents.{StoredDocument}
use Rattle.store_core.specs.StoreViews.{StoreView}
use Rattle.store_core.specs.inner.StoreMemory.{stored_view}
use Rattle.store_core.proofs.ChangeSteps.{len-of, low-entry}
use Rattle.store_core.proofs.Entries.{read-as}
use Rattle.store_core.proofs.PutLengths.{print_len}
use Rattle.store_core.proofs.store.Store.lend.Goals as goal

pub lend-requires-clause-known_length : goal.lend-requires-clause-known_length
lend-requires-clause-known_length c =
    let v = c.in-Some.entry.now in
    let there : Some v ≡ lookup (same_id c.args.doc.now) c.self.inside.documents.entries = rw c.in-Some.is at c.find_entry.ensures.exact in
    len-of c.self.inside.documents.entries c.self.inside.services.entries c.self.inside.limits c.self.inside.last c.self.inside.total c.args.doc.now v c.self.invariant (sym there) ∙ sym (print_len v.tree.root _ refl)

pub lend-requires-clause-within_levels : goal.lend-requires-clause-within_levels
lend-requires-clause-within_levels c =
    let v = c.in-Some.entry.now in
    let there : Some v ≡ lookup (same_id c.args.doc.now) c.self.inside.documents.entries = rw c.in-Some.is at c.find_entry.ensures.exact in
    low-entry c.self.inside.documents.entries c.self.inside.services.entries c.self.inside.limits c.self.inside.last c.self.inside.total c.args.doc.now v c.self.invariant (sym there)

pub returns-in-None : goal.returns-in-None
returns-in-None c = record {
  lends_version =
      let es = c.self.inside.documents.entries in
      let doc = c.args.doc.now in
      let none : None ≡ lookup (same_id doc) es = rw c.in-None.is at c.find_entry.ensures.exact in
      let same = ap (λ (s : StoreView). option_map {U = List ℕ × ℕ} (λ (h : StoredDocument). (encode_utf8_all (document_print h.tree), h.tag)) (find_document stored_id s.content.documents doc)) c.self.view_is in
      ap (λ (o : Option Entry). option_map {U = List ℕ × ℕ} (λ (v : Entry). (encode_utf8_all (document_print v.tree.root), v.tag)) o) none
      ∙ sym (read-as (same_id doc) stored_view stored_id (λ e. refl) (λ (h : StoredDocument). (encode_utf8_all (document_print h.tree), h.tag)) (λ (v : Entry). (encode_utf8_all (document_print v.tree.root), v.tag)) (λ e. refl) es) ∙ same;
}

pub returns-in-Some : goal.returns-in-Some
returns-in-Some c = record {
  lends_version =
      let es = c.self.inside.documents.entries in
      let doc = c.args.doc.now in
      let there : Some c.in-Some.entry.now ≡ lookup (same_id doc) es = rw c.in-Some.is at c.find_entry.ensures.exact in
      let same = ap (λ (s : StoreView). option_map {U = List ℕ × ℕ} (λ (h : StoredDocument). (encode_utf8_all (document_print h.tree), h.tag)) (find_document stored_id s.content.documents doc)) c.self.view_is in
      ap (λ (print : List ℕ). let x : Option (List ℕ × ℕ) = Some (print, c.in-Some.entry.now.tag) in x) c.lend.ensures.prints_document
      ∙ ap (λ (o : Option Entry). option_map {U = List ℕ × ℕ} (λ (v : Entry). (encode_utf8_all (document_print v.tree.root), v.tag)) o) there
      ∙ sym (read-as (same_id doc) stored_view stored_id (λ e. refl) (λ (h : StoredDocument). (encode_utf8_all (document_print h.tree), h.tag)) (λ (v : Entry). (encode_utf8_all (document_print v.tree.root), v.tag)) (λ e. refl) es) ∙ same;
}
