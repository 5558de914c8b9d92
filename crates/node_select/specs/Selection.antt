-- What a selector selects in a tree. RFC 4825, section 6.3: each step must match exactly one
-- child element. Each child is tested by itself, among its siblings; the document has the root
-- element as its one child.
use Rattle.std.specs.Prelude.{◌≡◌, ◌<◌, ◌≤◌, ℕ, suc, Bool, true, ◌&&◌, List, [], ◌∷◌, Option, None}
use Rattle.std.specs.Prelude.{Some, IsTrue, length, take, slice_get, option_map, option_and_then}
use Rattle.std.specs.Prelude.{if◌then◌else◌}
use Rattle.std.specs.List.{list_any}
use Rattle.std.specs.Str.{bytes_eq}
use Rattle.xml_tree.specs.Tree.{Tree, child_elements_of, at}
use Rattle.xml_tree.specs.TreeScopes.{scope_at, inside}
use Rattle.xml_names.specs.ExpandedNames.{ExpandedName, element_name, attr_name}
use Rattle.xml_names.specs.declared.names.Decl.{Decl}
use Rattle.xml_names.specs.declared.names.Attr.{Attr}
use Rattle.node_select.specs.StepSelection as step_laws
use Rattle.node_select.specs.StepSelection.{StepTests}
use Rattle.node_select.specs.declared.selector.NameTest.{NameTest}
use Rattle.node_select.specs.declared.selector.NameTest.TheVariants.{Any, Named}
use Rattle.node_select.specs.declared.selector.AttrTest.{AttrTest}
use Rattle.node_select.specs.declared.selector.Step.{Step}
use Rattle.node_select.specs.declared.selector.End.{End}
use Rattle.node_select.specs.declared.selector.End.TheVariants.{Attribute}
use Rattle.node_select.specs.declared.selector.Selector.{Selector}
use Rattle.node_select.specs.Names.{has_expanded_name}

-- ---- the two tests of a child, in the scope of its parent

-- whether a name passes the name test
abbrev pub passes_name_test : NameTest → ExpandedName → Bool
passes_name_test Any name = true
passes_name_test (Named uri local) name = has_expanded_name uri local name

-- whether a child passes a step's name test
abbrev pub is_named : List (List Decl) → Step → Tree → Bool
is_named c step child_element =
    passes_name_test step.name (element_name (inside c child_element) child_element.name)

-- whether an attribute has this name, in the scope at its element
abbrev pub is_attr_named : List (List Decl) → List ℕ → List ℕ → Attr → Bool
is_attr_named c uri local attr = has_expanded_name uri local (attr_name c attr.name)

-- whether an attribute has the name and the value of the test
abbrev pub passes_attr_test : List (List Decl) → AttrTest → Attr → Bool
passes_attr_test c test attr =
    bytes_eq attr.value test.value && is_attr_named c test.uri test.local attr

-- whether some attribute passes the test, if there is one
abbrev pub some_attr_passes : List (List Decl) → Option AttrTest → List Attr → Bool
some_attr_passes c None attrs = true
some_attr_passes c (Some test) attrs = list_any (passes_attr_test c test) attrs

-- whether a child passes a step's attribute test
abbrev pub is_tested : List (List Decl) → Step → Tree → Bool
is_tested c step child_element =
    some_attr_passes (inside c child_element) step.test child_element.attrs

-- the tests of a step, in the scope around the children
abbrev pub step_tests : List (List Decl) → Step → StepTests Tree
step_tests c step =
    record { named = is_named c step; position = step.position; tested = is_tested c step }

-- ---- selection as a relation

-- the i-th of these children, in the scope around them, matches the step, and no other does
abbrev pub SelectsChild : List (List Decl) → Step → List Tree → ℕ → Type 0
SelectsChild c step child_elements i =
    step_laws.Selects (step_tests c step) child_elements i

-- at each depth the child on the path matches its step, and no other does
abbrev pub SelectsAmong : List (List Decl) → List Tree → List Step → List ℕ → Type 0
SelectsAmong c child_elements [] [] = Unit {0}
SelectsAmong c child_elements [] (i ∷ p) = ⊥
SelectsAmong c child_elements (step ∷ steps) [] = ⊥
SelectsAmong c child_elements (step ∷ steps) (i ∷ p) =
    SelectsChild c step child_elements i
    × ((child_element : Tree) × (slice_get child_elements i ≡ Some child_element)
    × SelectsAmong (inside c child_element) (child_elements_of child_element) steps p)

-- the steps select the element at this path: from the document, whose one child is the root
abbrev pub SelectsPath : List Step → Tree → List ℕ → Type 0
SelectsPath steps root p = SelectsAmong [] (root ∷ []) steps (0 ∷ p)

-- whether the end exists, for an element in its scope
abbrev pub has_end : End → List (List Decl) → Tree → Bool
has_end (Attribute uri local) c e = list_any (is_attr_named c uri local) e.attrs
has_end _ c e = true

-- the selector finds something: its steps select an element, which has the attribute if the
-- selector ends in one
pub record FindsNode (root : Tree) (selector : Selector) : Type 0 where
  pub path : List ℕ
  pub element : Tree
  pub selects : SelectsPath selector.steps root path
  pub there : at path root ≡ Some element
  pub has : IsTrue (has_end selector.end (scope_at path root) element)

-- the first k steps select an element, and no greater number does; 0 if not even the first step
-- selects the root
pub record IsLongestMatch (steps : List Step) (root : Tree) (k : ℕ) : Type 0 where
  pub within : k ≤ length steps
  pub selects : 0 < k → (p : List ℕ) × SelectsPath (take k steps) root p
  pub longest : (j : ℕ) (p : List ℕ) → k < j → j ≤ length steps → SelectsPath (take j steps) root p
      → ⊥

-- ---- selection, computed

-- the number of the only child that matches
abbrev pub selected_child : List (List Decl) → Step → List Tree → Option ℕ
selected_child c step child_elements =
    step_laws.selected_number (step_tests c step) child_elements

-- the path from these children down
abbrev pub selected_path_among : List (List Decl) → List Tree → List Step → Option (List ℕ)
selected_path_among c child_elements [] = Some []
selected_path_among c child_elements (step ∷ steps) =
    option_and_then (λ i.
    option_map (λ p. i ∷ p)
    (option_and_then (λ child_element.
    selected_path_among (inside c child_element) (child_elements_of child_element) steps)
    (slice_get child_elements i)))
    (selected_child c step child_elements)

-- the path of the element that the steps select
abbrev pub selected_element_path : List Step → Tree → Option (List ℕ)
selected_element_path [] root = None
selected_element_path (step ∷ steps) root =
    if step_laws.matches (step_tests [] step) (root ∷ []) 0
    then selected_path_among (root.decls ∷ []) (child_elements_of root) steps
    else None

-- one step more than the remaining steps, if they select something
abbrev pub one_step_deeper : Option ℕ → ℕ
one_step_deeper None = 0
one_step_deeper (Some n) = suc n

-- how many first steps select one element after the other, from these children down
abbrev pub matched_depth : List (List Decl) → List Tree → List Step → ℕ
matched_depth c child_elements [] = 0
matched_depth c child_elements (step ∷ steps) =
    one_step_deeper (option_map
    (λ child_element. matched_depth (inside c child_element)
    (child_elements_of child_element) steps)
    (option_and_then (slice_get child_elements) (selected_child c step child_elements)))

-- the greatest number of first steps that select an element
abbrev pub longest_match_in : List Step → Tree → ℕ
longest_match_in steps root = matched_depth [] (root ∷ []) steps
