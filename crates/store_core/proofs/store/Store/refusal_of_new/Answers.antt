use Rattle.std.proofs.Common.{ℕ, nat_le, sym, ap, ◌∙◌, true}
use Rattle.indexmap.specs.IndexMap.{spare}
use Rattle.usage_docs.specs.Services.{document_len}
use Rattle.store_core.specs.inner.ChangePlans.{refusal_from_checks}
use Rattle.store_core.specs.StoreViews.{SpareCapacity}
use Rattle.store_core.specs.inner.StoreMemory.{unshared_flags}
use Rattle.store_core.proofs.ChangeReasons.{new-answer, total-small}
use Rattle.store_core.proofs.HomeReasons.{checked-short, first-reason, second-reason, uncut}
use Rattle.store_core.proofs.store.Store.refusal_of_new.Goals as goal

pub refusal_from_checks-requires : goal.refusal_from_checks-requires
refusal_from_checks-requires c = let s = c.self.inside in total-small s.documents.entries s.services.entries s.limits s.last s.total c.self.invariant

pub refusal_of_home-requires : goal.refusal_of_home-requires
refusal_of_home-requires c =
    let s = c.self.inside in
    checked-short c.first_conflict-place.result c.args.len (nat_le s.limits.documents c.len.result) s.total s.limits.bytes (sym c.refusal_from_checks.ensures.exact ∙ c.in_default.is)

pub returns-in-Some : goal.returns-in-Some
returns-in-Some c = record {
  first_refusal = λ t counted own.
      let s = c.self.inside in
      let room : SpareCapacity = record { documents = spare s.documents; services = spare s.services; trees = unshared_flags s.documents.entries } in
      first-reason c.args.self.now.content c.args.doc.now true t c.in-Some.refusal
      (c.in-Some.ensures.exact
      ∙ ap (λ (n : ℕ). refusal_from_checks c.first_conflict-place.result c.args.len (nat_le s.limits.documents n) s.total s.limits.bytes) c.len.ensures.len
      ∙ new-answer s.documents.entries s.services.entries s.limits s.last s.total room c.args.self.now c.args.doc.now c.self.view_is c.self.invariant t c.args.uris.now
      c.first_conflict-place.result c.args.len c.requires own c.first_conflict-place.ensures.exact counted);
}

pub returns : goal.returns
returns c = record {
  first_refusal = λ t counted own.
      let s = c.self.inside in
      let room : SpareCapacity = record { documents = spare s.documents; services = spare s.services; trees = unshared_flags s.documents.entries } in
      let short = checked-short c.first_conflict-place.result c.args.len (nat_le s.limits.documents c.len.result) s.total s.limits.bytes (sym c.refusal_from_checks.ensures.exact ∙ c.in_default.is) in
      second-reason c.args.self.now.content c.args.doc.now true t c.refusal_of_home.result
      (sym c.in_default.is ∙ c.refusal_from_checks.ensures.exact
      ∙ ap (λ (n : ℕ). refusal_from_checks c.first_conflict-place.result c.args.len (nat_le s.limits.documents n) s.total s.limits.bytes) c.len.ensures.len
      ∙ new-answer s.documents.entries s.services.entries s.limits s.last s.total room c.args.self.now c.args.doc.now c.self.view_is c.self.invariant t c.args.uris.now
      c.first_conflict-place.result c.args.len c.requires own c.first_conflict-place.ensures.exact counted)
      (c.refusal_of_home.ensures.first_refusal t (uncut c.args.len (document_len t) counted short));
}
