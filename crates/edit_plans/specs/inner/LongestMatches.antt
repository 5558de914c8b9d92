-- How far the steps of a selector select.
use Rattle.std.specs.Prelude.{◌<◌, List, take}
use Rattle.xml_tree.specs.Tree.{Tree}
use Rattle.node_select.specs.Selection.{IsLongestMatch, SelectsPath}
use Rattle.node_select.specs.declared.descent.Reached.{Reached}
use Rattle.node_select.specs.declared.selector.Step.{Step}

-- this prefix of the steps, and no longer one, selects an element, and it is at the path
pub record ReachesElement (steps : List Step) (t : Tree) (reached : Reached) : Type 0 where
  pub longest : IsLongestMatch steps t reached.steps
  pub selected : 0 < reached.steps → SelectsPath (take reached.steps steps) t reached.path
