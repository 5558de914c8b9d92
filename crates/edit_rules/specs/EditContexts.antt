-- What plans of changes are made from.
use Rattle.std.specs.Prelude.{ℕ, List}
use Rattle.doc_names.specs.declared.usages.Usage.{Usage}
use Rattle.xml_tree.specs.Tree.{Tree}
use Rattle.node_select.specs.declared.selector.Step.{Step}
use Rattle.node_select.specs.declared.selector.Selector.{Selector}

-- of a PUT: the usage, the document before it, and the steps of the address
pub record PutContext : Type 0 where
  pub usage : Usage
  pub document : Tree
  pub steps : List Step

-- of a change of a node: the usage, the document before it, and the selector of the address
pub record EditContext : Type 0 where
  pub usage : Usage
  pub document : Tree
  pub selector : Selector

-- an attribute of a document: the path of its element, its namespace and its local name
pub record AttrPlace : Type 0 where
  pub path : List ℕ
  pub uri : List ℕ
  pub local : List ℕ
