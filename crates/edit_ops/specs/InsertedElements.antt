-- The element that a change inserts: the root of a created document, an inserted element, or the
-- replacement of another.
use Rattle.std.specs.Prelude.{[]}
use Rattle.xml_tree.specs.Tree.{Tree, last, tree_of}
use Rattle.edit_ops.specs.declared.change.Change.{Change}
use Rattle.edit_ops.specs.declared.change.Change.TheVariants.{CreateDocument, Insert, Replace}
use Rattle.edit_ops.specs.declared.change.Change.TheVariants.{Remove, SetAttr, DropAttr}
use Rattle.edit_ops.specs.declared.change.Change.TheVariants.{RemoveDocument}

-- the change inserts an element
abbrev pub InsertsElement : Change → Type 0
InsertsElement (CreateDocument root) = Unit {0}
InsertsElement (Insert parent gap element) = Unit {0}
InsertsElement (Replace p element) = Unit {0}
InsertsElement (Remove p) = ⊥
InsertsElement (SetAttr p name value) = ⊥
InsertsElement (DropAttr p name) = ⊥
InsertsElement RemoveDocument = ⊥

-- an element without a name, in place of the inserted element of a change that has none
abbrev pub nameless_element : Tree
nameless_element = tree_of (record { prefix = []; local = [] }) [] [] (last [])

abbrev pub inserted_element : Change → Tree
inserted_element (CreateDocument root) = root
inserted_element (Insert parent gap element) = element
inserted_element (Replace p element) = element
inserted_element (Remove p) = nameless_element
inserted_element (SetAttr p name value) = nameless_element
inserted_element (DropAttr p name) = nameless_element
inserted_element RemoveDocument = nameless_element
