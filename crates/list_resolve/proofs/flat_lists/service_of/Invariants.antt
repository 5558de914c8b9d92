use Rattle.std.proofs.Common.{◌≡◌, chars, drop}
use Rattle.list_resolve.specs.FlatLists.{service_of}
use Rattle.list_resolve.specs.inner.Views.{scoped_element_view}
use Rattle.list_resolve.proofs.Services.{first_among}
use Rattle.list_resolve.proofs.flat_lists.service_of.Given as goal

abbrev pub invariant-loop-node : goal.invariant-loop-node
invariant-loop-node l = first_among (chars l.uri) (scoped_element_view l.scoped_element) (drop l.node-index l.node-items) ≡ service_of (chars l.uri) l.root
