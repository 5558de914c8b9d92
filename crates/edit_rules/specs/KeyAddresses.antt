-- Addresses by keys. RFC 4826, sections 3.4.5 and 4.4.5, on the attributes that distinguish an
-- element from its siblings.
use Rattle.std.specs.Prelude.{◌≡◌, ℕ, List, [], ◌∷◌, None, Some, slice_get}
use Rattle.std.specs.List.{AllByRecursion}
use Rattle.xml_tree.specs.Tree.{Tree, child_elements_of}
use Rattle.xml_names.specs.ExpandedNames.{element_name}
use Rattle.xml_tree.specs.Proper.{IsProperTree}
use Rattle.xml_tree.specs.TreeScopes.{inside}
use Rattle.node_select.specs.Names.{uri_or_empty}
use Rattle.node_select.specs.declared.selector.NameTest.TheVariants.{Named}
use Rattle.node_select.specs.declared.selector.Step.{Step}
use Rattle.node_select.specs.declared.selector.End.TheVariants.{Element}
use Rattle.node_select.specs.declared.selector.Selector.{Selector}
use Rattle.doc_names.specs.declared.usages.Usage.{Usage}
use Rattle.usage_docs.specs.declared.schema_table.ElementKind.{ElementKind}
use Rattle.usage_docs.specs.declared.schema_table.Key.{Key}
use Rattle.usage_docs.specs.SchemaTable.{Scope, kind_by_name, kind_of, root_kind}
use Rattle.usage_docs.specs.KeyAttributes.{key_of, attribute_name}
use Rattle.usage_docs.specs.UniqueKeys.{HasUniqueKeys}

-- ---- the steps

-- a step that is the name of a kind that some element kind has as a child, with a test of that
-- kind's key and no position
pub record IsKeyStep (step : Step) : Type 0 where
  pub row : ElementKind
  pub kind : ElementKind
  pub key : Key
  pub uri : List ℕ
  pub local : List ℕ
  pub value : List ℕ
  pub by_name : step.name ≡ Named uri local
  pub of_kind : kind_by_name row uri local ≡ Some kind
  pub of_key : key_of kind ≡ Some key
  pub anywhere : step.position ≡ None
  pub by_key : step.test ≡ Some (record { uri = []; local = attribute_name key; value = value })

-- the step that is the root's name
abbrev pub root_step : Tree → Step
root_step t =
    record {
      name = Named (uri_or_empty (element_name (t.decls ∷ []) t.name)) t.name.local;
      position = None;
      test = None;
    }

-- the first step is the root's name, and each later one is a key step
abbrev pub AreKeySteps : Tree → List Step → Type 0
AreKeySteps t [] = ⊥
AreKeySteps t (first ∷ later) = (first ≡ root_step t) × AllByRecursion IsKeyStep later

-- ---- kinds along a path

-- among the children of an element of this kind, in the scope inside it: each element on the path
-- has a kind
abbrev pub HaveKindsOnPath : ElementKind → Scope → List Tree → List ℕ → Type 0
HaveKindsOnPath row c child_elements [] = Unit {0}
HaveKindsOnPath row c child_elements (i ∷ p) =
    (child_element : Tree)
    × ((kind : ElementKind)
    × ((slice_get child_elements i ≡ Some child_element)
    × (kind_of row (inside c child_element) child_element.name ≡ Some kind)
    × HaveKindsOnPath kind (inside c child_element) (child_elements_of child_element) p))

-- ---- key addresses

-- the selector is a key address of the element at the path: it ends in an element, its first step
-- is the root's name, each later step is a key step, and all elements on the path have kinds
pub record IsKeyAddressOf (u : Usage) (t : Tree) (selector : Selector) (p : List ℕ) : Type 0 where
  pub ends : selector.end ≡ Element
  pub steps : AreKeySteps t selector.steps
  pub kinds : HaveKindsOnPath (root_kind u) (t.decls ∷ []) (child_elements_of t) p

-- ---- documents whose key addresses are stable

-- a proper document in which keys are distinct among siblings
pub record IsProperWithUniqueKeys (u : Usage) (t : Tree) : Type 0 where
  pub unique : HasUniqueKeys u t
  pub proper : IsProperTree [] t
