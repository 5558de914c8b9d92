use Rattle.std.proofs.Common.{true, sym, ◌∙◌, arith}
use Rattle.store_core.specs.declared.refusal.StoreRefusal.TheVariants.{NoNumber}
use Rattle.store_core.proofs.PlanAnswers.{creation-refused, is-short, creation-unnumbered}
use Rattle.store_core.proofs.store.Store.outline_creation.Goals as goal

pub refusal_of_new-requires : goal.refusal_of_new-requires
refusal_of_new-requires c = c.requires.0

pub returns-in-Some-clause-err_refusal : goal.returns-in-Some-clause-err_refusal
returns-in-Some-clause-err_refusal c =
    let root = c.args.root.now in
    let len = c.document_len-len.ensures.counts_document root c.measure_root-put.ensures.counts_root in
    creation-refused c.args.self.now.content c.args.doc.now root c.in-Some.refusal (sym (c.in-Some.ensures.first_refusal root len (c.as_slice.ensures.exact ∙ c.in_ok-enters.ensures.ok)))

pub returns-in_default-next_number-clause-err_refusal : goal.returns-in_default-next_number-clause-err_refusal
returns-in_default-next_number-clause-err_refusal c =
    let root = c.args.root.now in
    let len = c.document_len-len.ensures.counts_document root c.measure_root-put.ensures.counts_root in
    let free = sym (c.refusal_of_new.ensures.first_refusal root len (c.as_slice.ensures.exact ∙ c.in_ok-enters.ensures.ok)) ∙ c.in_default.is in
    creation-unnumbered c.args.self.now.content c.args.doc.now root NoNumber free (c.next_number.ensures.none_at_end c.in_default-next_number.is)

pub returns-clause-ok_outline : goal.returns-clause-ok_outline
returns-clause-ok_outline c =
    let content = c.args.self.now.content in
    let root = c.args.root.now in
    let len = c.document_len-len.ensures.counts_document root c.measure_root-put.ensures.counts_root in
    let free = sym (c.refusal_of_new.ensures.first_refusal root len (c.as_slice.ensures.exact ∙ c.in_ok-enters.ensures.ok)) ∙ c.in_default.is in
    let short = is-short content c.args.doc.now true root free in
    record {
      free = free;
      numbered = c.in-Some-next_number.ensures.some_is_free.1;
      number = c.in-Some-next_number.ensures.some_is_free.0;
      print = c.measure_root-put.ensures.prints_document;
      len = omega (arith, len, short);
      total = omega (arith, short, c.total-sum.ensures.exact, c.total-sum.ensures.stays_countable, len, c.saturating_add-total.ensures);
      leaves = c.empty-leaves.ensures.holds_no_items;
      enters = c.in_ok-enters.ensures.ok;
    }
