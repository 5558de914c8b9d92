use Rattle.std.proofs.Common.{None, Some, ap, ◌∙◌}
use Rattle.store_core.specs.StoreViews.{StoreView}
use Rattle.store_core.proofs.TellingSince.{by-entry}
use Rattle.store_core.proofs.store.Store.since.Goals as goal

pub returns-in-Some : goal.returns-in-Some
returns-in-Some c = record {
  exact =
      c.entry_changes_since.ensures.exact
      ∙ by-entry c.self.inside.documents.entries c.args.doc.now c.args.tag c.args.self.now (Some c.in-Some.entry.now) (ap (λ (s : StoreView). s.content.documents) c.self.view_is) c.in-Some.ensures.exact;
}

pub returns-in-None : goal.returns-in-None
returns-in-None c = record {
  exact =
      by-entry c.self.inside.documents.entries c.args.doc.now c.args.tag c.args.self.now None (ap (λ (s : StoreView). s.content.documents) c.self.view_is) c.in-None.ensures.exact;
}
