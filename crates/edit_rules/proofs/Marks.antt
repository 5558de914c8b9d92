-- Marks along a path: the kind of each element and the value of its key.
use Rattle.std.specs.Prelude.{◌≡◌, ℕ, List, [], ◌∷◌, Option, None, Some, option_map, option_and_then, slice_get}
use Rattle.xml_tree.specs.Tree.{Tree, child_elements_of}
use Rattle.xml_tree.specs.TreeScopes.{inside}
use Rattle.node_select.specs.declared.selector.NameTest.TheVariants.{Named}
use Rattle.node_select.specs.declared.selector.Step.{Step}
use Rattle.usage_docs.specs.declared.schema_table.ElementKind.{ElementKind}
use Rattle.usage_docs.specs.declared.schema_table.Key.{Key}
use Rattle.usage_docs.specs.SchemaTable.{Scope, kind_by_name}
use Rattle.usage_docs.specs.KeyAttributes.{key_of, attribute_name}
use Rattle.usage_docs.specs.UniqueKeys.{SiblingKey, sibling_key_of}

-- the marks of the elements on a path, from the children of an element of this kind down; none if
-- one of the elements has none
abbrev pub marks_along : ElementKind → Scope → List Tree → List ℕ → Option (List SiblingKey)
marks_along row c child_elements [] = Some []
marks_along row c child_elements (i ∷ p) =
    option_and_then (λ child_element. option_and_then (λ m. option_map (λ ms. m ∷ ms) (marks_along m.kind (inside c child_element) (child_elements_of child_element) p)) (sibling_key_of row c child_element)) (slice_get child_elements i)

-- below an element of this kind the step tests a child for this mark, by its kind's name and its
-- key
pub record AsksFor (row : ElementKind) (step : Step) (m : SiblingKey) : Type 0 where
  pub key : Key
  pub uri : List ℕ
  pub local : List ℕ
  pub by_name : step.name ≡ Named uri local
  pub of_kind : kind_by_name row uri local ≡ Some m.kind
  pub of_key : key_of m.kind ≡ Some key
  pub anywhere : step.position ≡ None
  pub by_key : step.test ≡ Some (record { uri = []; local = attribute_name key; value = m.value })

-- the steps test these marks, from an element of this kind down
abbrev pub AskFor : ElementKind → List Step → List SiblingKey → Type 0
AskFor row [] [] = Unit {0}
AskFor row [] (m ∷ ms) = ⊥
AskFor row (step ∷ steps) [] = ⊥
AskFor row (step ∷ steps) (m ∷ ms) = AsksFor row step m × AskFor m.kind steps ms
