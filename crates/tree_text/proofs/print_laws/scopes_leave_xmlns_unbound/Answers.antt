use Rattle.tree_text.proofs.UnboundScopes.{never_bound}
use Rattle.tree_text.proofs.print_laws.scopes_leave_xmlns_unbound.Goals as goal

pub returns : goal.returns
returns c = record { leaves_xmlns_unbound = never_bound }
