use Rattle.std.proofs.Common.{◌≡◌, ◌≤◌, ◌+◌, length, drop}
use Rattle.xml_tree.specs.Tree.{height}
use Rattle.list_resolve.specs.ScopedElements.{scoped_element_below, list_element}
use Rattle.list_resolve.specs.inner.Views.{scoped_element_view}
use Rattle.list_resolve.proofs.scoped_element.list_element.Given as goal

abbrev pub invariant-loop-number : goal.invariant-loop-number
invariant-loop-number l =
    record {
      depth : length l.here.scope ≡ l.number-index + 1;
      reached : scoped_element_below (scoped_element_view l.here) (drop l.number-index l.number-items) ≡ list_element l.root l.path;
      lower : height l.here.element.now ≤ height l.root;
    }
