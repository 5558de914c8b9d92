use Rattle.std.proofs.Common.{◌≡◌, ◌+◌, ◌++◌, length, drop}
use Rattle.xml_tree.specs.Tree.{at}
use Rattle.xml_tree.specs.TreeScopes.{scope_at, scope_below}
use Rattle.xml_tree.proofs.scope.Scope.at.Given as goal

abbrev pub invariant-loop-number : goal.invariant-loop-number
invariant-loop-number l =
    record {
      depth : length l.scope ≡ l.number-index + 1;
      reached : at (drop l.number-index l.number-items) l.here ≡ at l.path l.root;
      scopes : l.scope ++ scope_below (drop l.number-index l.number-items) l.here ≡ scope_at l.path l.root;
    }
