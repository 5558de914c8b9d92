-- Key addresses as the code tests them, from the root down.
use Rattle.std.specs.Prelude.{ℕ, Bool, true, false, ◌&&◌, List, [], ◌∷◌, Option, None, Some}
use Rattle.std.specs.Prelude.{is_none, slice_get}
use Rattle.std.specs.Option.{option_map_or}
use Rattle.std.specs.Str.{bytes_eq}
use Rattle.xml_tree.specs.Tree.{Tree, child_elements_of}
use Rattle.node_select.specs.declared.selector.NameTest.{NameTest}
use Rattle.node_select.specs.declared.selector.NameTest.TheVariants.{Any, Named}
use Rattle.node_select.specs.declared.selector.AttrTest.{AttrTest}
use Rattle.node_select.specs.declared.selector.End.{End}
use Rattle.node_select.specs.declared.selector.End.TheVariants.{Element, Attribute, Namespaces}
use Rattle.node_select.specs.declared.selector.Selector.{Selector}
use Rattle.node_select.specs.declared.selector.Step.{Step}
use Rattle.doc_names.specs.declared.usages.Usage.{Usage}
use Rattle.usage_docs.specs.declared.schema_table.ElementKind.{ElementKind}
use Rattle.usage_docs.specs.declared.schema_table.Key.{Key}
use Rattle.usage_docs.specs.SchemaTable.{Scope, kind_of, root_kind}
use Rattle.usage_docs.specs.KeyAttributes.{key_of, attribute_name}
use Rattle.xml_tree.specs.TreeScopes.{inside}

-- whether a step tests a name
abbrev pub has_name : NameTest → Bool
has_name Any = false
has_name (Named uri local) = true

-- whether a step is only a name
abbrev pub is_name_alone : Step → Bool
is_name_alone step = has_name step.name && is_none step.position && is_none step.test

-- whether a test is a test of this key
abbrev pub tests_key : Key → AttrTest → Bool
tests_key key test = bytes_eq test.uri [] && bytes_eq test.local (attribute_name key)

-- whether there is a test, and it tests the key of this kind
abbrev pub tests_key_of : ElementKind → Option AttrTest → Bool
tests_key_of kind None = false
tests_key_of kind (Some test) = option_map_or (λ key. tests_key key test) (key_of kind) false

-- whether a step is a name with a test of this kind's key and no position
abbrev pub is_key_step : ElementKind → Step → Bool
is_key_step kind step = has_name step.name && is_none step.position && tests_key_of kind step.test

-- whether all are such steps along a path of elements that have kinds, from the children of an
-- element of this kind down
abbrev pub are_key_steps_along : ElementKind → Scope → List Tree → List Step → List ℕ → Bool
are_key_steps_along row c child_elements steps [] = true
are_key_steps_along row c child_elements [] (i ∷ p) = true
are_key_steps_along row c child_elements (step ∷ steps) (i ∷ p) =
    option_map_or (λ child_element.
    option_map_or (λ kind.
    is_key_step kind step
    && are_key_steps_along kind (inside c child_element) (child_elements_of child_element) steps p)
    (kind_of row (inside c child_element) child_element.name) false)
    (slice_get child_elements i) false

-- whether a selector ends in an element
abbrev pub ends_in_element : End → Bool
ends_in_element Element = true
ends_in_element (Attribute uri local) = false
ends_in_element Namespaces = false

-- whether the first step is only a name, and the others are key steps along a path of a document
abbrev pub are_key_steps : Usage → Tree → List Step → List ℕ → Bool
are_key_steps u t [] p = false
are_key_steps u t (first ∷ later) p =
    is_name_alone first
    && are_key_steps_along (root_kind u) (t.decls ∷ []) (child_elements_of t) later p

abbrev pub is_key_address : Usage → Tree → Selector → List ℕ → Bool
is_key_address u t selector p = ends_in_element selector.end && are_key_steps u t selector.steps p
