use Rattle.std.proofs.Common.{◌≡◌, ◌≤◌, ℕ, Option, None, Some, sym, ap, subst, ◌∙◌, rules}
use Rattle.std.specs.Map.{lookup}
use Rattle.std.specs.Option.{option_map}
use Rattle.xml_tree.specs.Tree.{Tree, height}
use Rattle.doc_names.specs.NameEquality.{same_id}
use Rattle.doc_names.specs.Usages.{usage_of}
use Rattle.store_core.specs.declared.entry.Entry.{Entry}
use Rattle.store_core.specs.DocumentChanges.{find_document, stored_id}
use Rattle.store_core.specs.Contents.{StoredDocument}
use Rattle.store_core.specs.ValidStates.{IsSoundDocumentFor}
use Rattle.store_core.specs.StoreViews.{StoreView}
use Rattle.store_core.proofs.Entries.{tree-and-tag}
use Rattle.store_core.proofs.ChangeSteps.{low-entry, sound-entry}
use Rattle.store_core.proofs.store.Store.get.Goals as goal

pub returns-in_err-entry-clause-stored_version : goal.returns-in_err-entry-clause-stored_version
returns-in_err-entry-clause-stored_version c =
    let es = c.self.inside.documents.entries in
    let doc = c.args.doc.now in
    let none : None ≡ lookup (same_id doc) es = rw c.in_err-entry.was at c.find_entry.ensures.exact in
    let same = ap (λ (s : StoreView). option_map {U = Tree × ℕ} (λ (h : StoredDocument). (h.tree, h.tag)) (find_document stored_id s.content.documents doc)) c.self.view_is in
    let told : c.from_residual.result ≡ None = search rules in
    rw told (ap (λ (o : Option Entry). option_map {U = Tree × ℕ} (λ (v : Entry). (v.tree.root, v.tag)) o) none ∙ sym (tree-and-tag es doc) ∙ same)

pub returns-clause-stored_version : goal.returns-clause-stored_version
returns-clause-stored_version c =
    let es = c.self.inside.documents.entries in
    let doc = c.args.doc.now in
    let there : Some c.in_ok-entry.entry.now ≡ lookup (same_id doc) es = rw c.in_ok-entry.was at c.find_entry.ensures.exact in
    let same = ap (λ (s : StoreView). option_map {U = Tree × ℕ} (λ (h : StoredDocument). (h.tree, h.tag)) (find_document stored_id s.content.documents doc)) c.self.view_is in
    ap (λ (t : Tree). let x : Option (Tree × ℕ) = Some (t, c.in_ok-entry.entry.now.tag) in x) c.root.ensures.exact
    ∙ ap (λ (o : Option Entry). option_map {U = Tree × ℕ} (λ (v : Entry). (v.tree.root, v.tag)) o) there ∙ sym (tree-and-tag es doc) ∙ same

pub returns-clause-within_levels : goal.returns-clause-within_levels
returns-clause-within_levels c =
    let es = c.self.inside.documents.entries in
    let doc = c.args.doc.now in
    let there : Some c.in_ok-entry.entry.now ≡ lookup (same_id doc) es = rw c.in_ok-entry.was at c.find_entry.ensures.exact in
    subst (λ (t : Tree). height t ≤ 64) (sym c.root.ensures.exact)
    (low-entry es c.self.inside.services.entries c.self.inside.limits c.self.inside.last c.self.inside.total doc c.in_ok-entry.entry.now c.self.invariant (sym there))

pub returns-clause-tree_is_sound : goal.returns-clause-tree_is_sound
returns-clause-tree_is_sound c =
    let es = c.self.inside.documents.entries in
    let doc = c.args.doc.now in
    let there : Some c.in_ok-entry.entry.now ≡ lookup (same_id doc) es = rw c.in_ok-entry.was at c.find_entry.ensures.exact in
    subst (λ (t : Tree). IsSoundDocumentFor (usage_of doc.auid) t) (sym c.root.ensures.exact)
    (sound-entry es c.self.inside.services.entries c.self.inside.limits c.self.inside.last c.self.inside.total doc c.in_ok-entry.entry.now c.self.invariant (sym there))
