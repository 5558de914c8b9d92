-- The diff document of one element. RFC 5874, section 3: `element` names an element of a document
-- by its address and says whether it exists.
use Rattle.std.specs.Prelude.{ℕ, Bool, true, false, codes, List, [], ◌∷◌, ◌++◌}
use Rattle.xml_tree.specs.Tree.{last, Tree, tree_of}
use Rattle.xml_names.specs.ExpandedNames.{name_from_parts}
use Rattle.edit_ops.specs.DiffOperations.{plain_attr}
use Rattle.patch_rules.specs.Notices.{candidate_prefix, diff}
use Rattle.element_watch.specs.declared.element_states.ElementState.{ElementState}
use Rattle.element_watch.specs.declared.element_states.ElementState.TheVariants.{Unchanged, Exists}
use Rattle.element_watch.specs.declared.element_states.ElementState.TheVariants.{Missing}

-- a truth value as XML Schema writes it
abbrev pub boolean_text : Bool → List ℕ
boolean_text true = codes "true"
boolean_text false = codes "false"

-- the `element` that says whether the element with this address exists
abbrev pub existence_element : List ℕ → List ℕ → Bool → Tree
existence_element prefix sel exists =
    tree_of (name_from_parts prefix (codes "element")) []
    (plain_attr (codes "sel") sel ∷ plain_attr (codes "exists") (boolean_text exists) ∷ [])
    (last [])

-- what a state adds
abbrev pub existence_elements : List ℕ → List ℕ → ElementState → List Tree
existence_elements prefix sel Unchanged = []
existence_elements prefix sel Exists = existence_element prefix sel true ∷ []
existence_elements prefix sel Missing = existence_element prefix sel false ∷ []

-- the diff document of an element of the document with this printed name, by its selector as
-- written: its address has the separator between the two
abbrev pub element_notice : List ℕ → List ℕ → List ℕ → ElementState → Tree
element_notice root id raw state =
    diff (candidate_prefix 0) root
    (existence_elements (candidate_prefix 0) (id ++ codes "/~~/" ++ raw) state)
