use Rattle.std.proofs.Common.{sym, ap, ◌∙◌, arith}
use Rattle.indexmap.specs.IndexMap.{spare}
use Rattle.store_core.specs.StoreViews.{SpareCapacity, StoreView}
use Rattle.store_core.specs.DocumentChanges.{refusal_of_home}
use Rattle.store_core.specs.inner.StoreMemory.{contents_view, unshared_flags}
use Rattle.store_core.proofs.HomeReasons.{home-answer, lens-small, others-small, unlimited}
use Rattle.store_core.proofs.store.Store.refusal_of_home.Goals as goal

pub returns-then-not-limits_homes : goal.returns-then-not-limits_homes
returns-then-not-limits_homes c = record {
  first_refusal = λ t long.
      let s = c.self.inside in
      sym (unlimited (contents_view s.documents.entries s.limits s.last) c.args.doc.now t (sym c.limits_homes.ensures.exact ∙ c.if-not-limits_homes.true))
      ∙ ap (λ (x : StoreView). refusal_of_home x.content c.args.doc.now t) c.self.view_is;
}

pub other_sums-others-requires : goal.other_sums-others-requires
other_sums-others-requires c = let s = c.self.inside in lens-small s.documents.entries s.services.entries s.limits s.last s.total c.self.invariant

pub refusal_from_sums-requires-clause-others_countable : goal.refusal_from_sums-requires-clause-others_countable
refusal_from_sums-requires-clause-others_countable c =
    let s = c.self.inside in
    omega (arith, c.other_sums-others.ensures.adds_lengths, others-small s.documents.entries s.services.entries s.limits s.last s.total c.args.doc.now c.self.invariant)

pub returns : goal.returns
returns c = record {
  first_refusal = λ t long.
      let s = c.self.inside in
      let room : SpareCapacity = record { documents = spare s.documents; services = spare s.services; trees = unshared_flags s.documents.entries } in
      let sums = c.other_sums-others.result in
      c.refusal_from_sums.ensures.exact
      ∙ home-answer s.documents.entries s.services.entries s.limits s.last s.total room c.args.self.now c.args.doc.now c.self.view_is c.self.invariant t sums.documents sums.bytes c.args.len
      c.other_sums-others.ensures.counts c.other_sums-others.ensures.adds_lengths long;
}
