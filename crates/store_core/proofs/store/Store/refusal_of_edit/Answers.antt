use Rattle.std.proofs.Common.{◌-◌, false, option_map, sym, ap, ◌∙◌, arith}
use Rattle.usage_docs.specs.Services.{document_len}
use Rattle.std.specs.Prelude.{max}
use Rattle.indexmap.specs.IndexMap.{spare}
use Rattle.store_core.specs.StoreViews.{SpareCapacity}
use Rattle.store_core.specs.inner.StoreMemory.{unshared_flags}
use Rattle.store_core.proofs.ChangeReasons.{edit-answer, no-longer, total-small}
use Rattle.store_core.proofs.ChangeSteps.{no-entry}
use Rattle.store_core.proofs.HomeReasons.{checked-short, first-reason, second-reason, uncut}
use Rattle.store_core.proofs.store.Store.refusal_of_edit.Goals as goal

pub unreachable-requires : goal.unreachable-requires
unreachable-requires c =
    let s = c.self.inside in
    let room : SpareCapacity = record { documents = spare s.documents; services = spare s.services; trees = unshared_flags s.documents.entries } in
    no-entry s.documents.entries s.limits s.last room c.args.self.now c.args.doc.now c.self.view_is (rw c.in_default.is at c.find_entry.ensures.exact) c.requires

pub overflow_sub-others : goal.overflow_sub-others
overflow_sub-others c =
    let s = c.self.inside in
    let room : SpareCapacity = record { documents = spare s.documents; services = spare s.services; trees = unshared_flags s.documents.entries } in
    no-longer s.documents.entries s.services.entries s.limits s.last s.total room c.args.self.now c.args.doc.now c.self.view_is c.self.invariant c.in-Some.entry.now c.in-Some.ensures.exact

pub refusal_from_checks-requires : goal.refusal_from_checks-requires
refusal_from_checks-requires c = let s = c.self.inside in omega (arith, total-small s.documents.entries s.services.entries s.limits s.last s.total c.self.invariant)

pub refusal_of_home-requires : goal.refusal_of_home-requires
refusal_of_home-requires c =
    let s = c.self.inside in
    checked-short c.service_number-place.result c.args.len false (s.total - c.in-Some.entry.now.len) s.limits.bytes (sym c.refusal_from_checks.ensures.exact ∙ c.in_default-refusal_from_checks.is)

pub returns-in-Some-refusal_from_checks : goal.returns-in-Some-refusal_from_checks
returns-in-Some-refusal_from_checks c = record {
  first_refusal = λ h t leaves is counted exchanged.
      let s = c.self.inside in
      let room : SpareCapacity = record { documents = spare s.documents; services = spare s.services; trees = unshared_flags s.documents.entries } in
      first-reason c.args.self.now.content c.args.doc.now false t c.in-Some-refusal_from_checks.refusal
      (c.in-Some-refusal_from_checks.ensures.exact
      ∙ edit-answer s.documents.entries s.services.entries s.limits s.last s.total room c.args.self.now c.args.doc.now c.self.view_is c.self.invariant c.in-Some.entry.now c.in-Some.ensures.exact
      h t leaves c.args.uris.now c.args.first c.args.len c.service_number-place.result is exchanged
      (c.service_number-place.ensures.exact ∙ ap (option_map (λ i. max c.args.first i)) c.first_conflict-place.ensures.exact) counted);
}

pub returns : goal.returns
returns c = record {
  first_refusal = λ h t leaves is counted exchanged.
      let s = c.self.inside in
      let room : SpareCapacity = record { documents = spare s.documents; services = spare s.services; trees = unshared_flags s.documents.entries } in
      let short = checked-short c.service_number-place.result c.args.len false (s.total - c.in-Some.entry.now.len) s.limits.bytes (sym c.refusal_from_checks.ensures.exact ∙ c.in_default-refusal_from_checks.is) in
      second-reason c.args.self.now.content c.args.doc.now false t c.refusal_of_home.result
      (sym c.in_default-refusal_from_checks.is ∙ c.refusal_from_checks.ensures.exact
      ∙ edit-answer s.documents.entries s.services.entries s.limits s.last s.total room c.args.self.now c.args.doc.now c.self.view_is c.self.invariant c.in-Some.entry.now c.in-Some.ensures.exact
      h t leaves c.args.uris.now c.args.first c.args.len c.service_number-place.result is exchanged
      (c.service_number-place.ensures.exact ∙ ap (option_map (λ i. max c.args.first i)) c.first_conflict-place.ensures.exact) counted)
      (c.refusal_of_home.ensures.first_refusal t (uncut c.args.len (document_len t) counted short));
}
