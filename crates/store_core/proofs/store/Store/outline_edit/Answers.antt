use Rattle.std.proofs.Common.{false, ◌≡◌, ℕ, ◌+◌, List, IsSomeAnd, Option, ap, min, refl, subst, sym, ◌∙◌, arith}
use Rattle.xml_tree.specs.Tree.{Tree}
use Rattle.usage_docs.specs.Services.{document_len}
use Rattle.edit_ops.specs.Changes.{FitsTree, edited}
use Rattle.store_core.specs.DocumentChanges.{find_document, stored_id}
use Rattle.store_core.specs.Contents.{StoredDocument}
use Rattle.store_core.specs.declared.refusal.StoreRefusal.TheVariants.{NoNumber}
use Rattle.store_core.specs.ValidStates.{document_addresses}
use Rattle.store_core.specs.inner.Addresses.{AreReplacedAt, removed_addresses_of}
use Rattle.store_core.specs.PreparedChanges.{total_len}
use Rattle.store_core.proofs.ChangePremises.{asked}
use Rattle.store_core.proofs.PlanAnswers.{edit-exchanged, exchanged-between, edit-refused, edit-unnumbered, is-short, some-held}
use Rattle.store_core.proofs.store.Store.outline_edit.Goals as goal

pub document_len_after-len-requires-clause-fits : goal.document_len_after-len-requires-clause-fits
document_len_after-len-requires-clause-fits c =
    let h = c.requires.stored_there in
    subst (λ (t : Tree). FitsTree t c.args.change.now) (h.2 ∙ sym c.root-tree.ensures.exact) (asked c.args.self.now.content c.args.doc.now c.args.change.now h.0 c.requires.edits_document h.1 c.requires.asks_change).0

pub document_len_after-len-requires-clause-length_exact : goal.document_len_after-len-requires-clause-length_exact
document_len_after-len-requires-clause-length_exact c = c.requires.stored_there.4 ∙ ap document_len (sym c.root-tree.ensures.exact)

pub refusal_of_edit-requires : goal.refusal_of_edit-requires
refusal_of_edit-requires c = some-held (find_document stored_id c.args.self.now.content.documents c.args.doc.now) c.requires.stored_there.0 c.requires.stored_there.1

pub returns-in-Some-clause-err_refusal : goal.returns-in-Some-clause-err_refusal
returns-in-Some-clause-err_refusal c =
    let content = c.args.self.now.content in
    let doc = c.args.doc.now in
    let change = c.args.change.now in
    let h = c.requires.stored_there in
    let v = c.args.entry.now in
    let leaves = removed_addresses_of doc.auid v.tree.root change in
    let counts = c.document_len_after-len.ensures.exact ∙ ap (λ (t : Tree). min (document_len (edited t change)) 18446744073709551615) c.root-tree.ensures.exact in
    let exchanged =
    edit-exchanged content doc change h.0 v.tree.root c.first_added_number-first.result leaves c.as_slice.result.now c.requires.asks_change c.requires.edits_document h.1 h.2
    c.requires.is_sound c.first_added_number-first.ensures.exact refl (c.as_slice.ensures.exact ∙ c.in_ok-enters.ensures.ok) in
    edit-refused content doc change h.0 (edited v.tree.root change) c.in-Some.refusal c.requires.edits_document h.1 (ap (λ (t : Tree). edited t change) (sym h.2))
    (sym (c.in-Some.ensures.first_refusal h.0 (edited v.tree.root change) leaves h.1 counts exchanged))

pub returns-in_default-next_number-clause-err_refusal : goal.returns-in_default-next_number-clause-err_refusal
returns-in_default-next_number-clause-err_refusal c =
    let content = c.args.self.now.content in
    let doc = c.args.doc.now in
    let change = c.args.change.now in
    let h = c.requires.stored_there in
    let v = c.args.entry.now in
    let leaves = removed_addresses_of doc.auid v.tree.root change in
    let counts = c.document_len_after-len.ensures.exact ∙ ap (λ (t : Tree). min (document_len (edited t change)) 18446744073709551615) c.root-tree.ensures.exact in
    let exchanged =
    edit-exchanged content doc change h.0 v.tree.root c.first_added_number-first.result leaves c.as_slice.result.now c.requires.asks_change c.requires.edits_document h.1 h.2
    c.requires.is_sound c.first_added_number-first.ensures.exact refl (c.as_slice.ensures.exact ∙ c.in_ok-enters.ensures.ok) in
    edit-unnumbered content doc change h.0 (edited v.tree.root change) NoNumber c.requires.edits_document h.1 (ap (λ (t : Tree). edited t change) (sym h.2))
    (sym (c.refusal_of_edit.ensures.first_refusal h.0 (edited v.tree.root change) leaves h.1 counts exchanged) ∙ c.in_default.is) (c.next_number.ensures.none_at_end c.in_default-next_number.is)

pub total_without-others-requires : goal.total_without-others-requires
total_without-others-requires c = some-held (find_document stored_id c.args.self.now.content.documents c.args.doc.now) c.requires.stored_there.0 c.requires.stored_there.1

pub returns-clause-ok_outline : goal.returns-clause-ok_outline
returns-clause-ok_outline c =
    let content = c.args.self.now.content in
    let doc = c.args.doc.now in
    let change = c.args.change.now in
    let h = c.requires.stored_there in
    let v = c.args.entry.now in
    let tree = edited v.tree.root change in
    let counts = c.document_len_after-len.ensures.exact ∙ ap (λ (t : Tree). min (document_len (edited t change)) 18446744073709551615) c.root-tree.ensures.exact in
    let exchanged =
    edit-exchanged content doc change h.0 v.tree.root c.first_added_number-first.result c.in_ok-leaves.leaves c.in_ok-enters.enters c.requires.asks_change c.requires.edits_document h.1 h.2
    c.requires.is_sound c.first_added_number-first.ensures.exact (rw c.root-tree.ensures.exact at c.in_ok-leaves.ensures.ok)
    c.in_ok-enters.ensures.ok in
    let told = subst (λ (us : List (List ℕ)). AreReplacedAt c.first_added_number-first.result (document_addresses doc.auid h.0.tree) c.in_ok-leaves.leaves us (document_addresses doc.auid tree)) (sym c.as_slice.ensures.exact) exchanged in
    let free = sym (c.refusal_of_edit.ensures.first_refusal h.0 tree c.in_ok-leaves.leaves h.1 counts told) ∙ c.in_default.is in
    let short = is-short content doc false tree free in
    let others = c.total_without-others.result in
    let whole = subst (λ (o : Option StoredDocument). IsSomeAnd o (λ x. others + document_len x.tree ≡ total_len content)) h.1 c.total_without-others.ensures.completes_total in
    record {
      free = free;
      numbered = c.in-Some-next_number.ensures.some_is_free.1;
      number = c.in-Some-next_number.ensures.some_is_free.0;
      put = c.measure_put-put.ensures.counts_element;
      print = c.measure_put-put.ensures.prints_document;
      len = omega (arith, counts, short);
      total = omega (arith, short, c.total_without-others.ensures.is_small, whole, ap document_len h.2, c.total_without-others.ensures.exact, counts, c.saturating_add-total.ensures);
      addresses =
          exchanged-between c.first_added_number-first.result (document_addresses doc.auid h.0.tree) (document_addresses doc.auid v.tree.root) c.in_ok-leaves.leaves c.in_ok-enters.enters (document_addresses doc.auid tree)
          (sym (ap (λ (t : Tree). document_addresses doc.auid t) h.2)) exchanged;
    }
