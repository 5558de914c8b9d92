use Rattle.list_resolve.specs.inner.Views.{context_view}
use Rattle.list_resolve.proofs.ReferenceTargets.{leads_nowhere}
use Rattle.list_resolve.proofs.resolution.resolve_target.Goals as goal

pub returns-in_default-clause-exact : goal.returns-in_default-clause-exact
returns-in_default-clause-exact c = leads_nowhere (context_view c.args.ground.now) c.args.wanted c.args.target c.in_default.not-Node
