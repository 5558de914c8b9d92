use Rattle.std.proofs.Common.{List}
use Rattle.xml_tree.specs.Tree.{Tree}
use Rattle.store_core.specs.Indexes.{AreIndexTrees}
use Rattle.xcap_get.proofs.IndexSteps.{Gathered, shown}
use Rattle.xcap_get.proofs.service_index.index_of_services.Given as goal

abbrev pub invariant-loop-root : goal.invariant-loop-root
invariant-loop-root l = (trees : List Tree) × AreIndexTrees l.store.content trees × Gathered trees (shown l.root-iterator.rest.items) l.maker
