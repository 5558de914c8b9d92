-- Whether a node that is put has a place. RFC 4825, section 8.2.1: its parent has to exist.
use Rattle.std.specs.Prelude.{Bool, true, false, ◌||◌, List, [], ◌∷◌, is_some}
use Rattle.xml_tree.specs.Tree.{Tree}
use Rattle.node_select.specs.Selection.{selected_element_path}
use Rattle.node_select.specs.declared.selector.End.{End}
use Rattle.node_select.specs.declared.selector.End.TheVariants.{Element, Attribute, Namespaces}
use Rattle.node_select.specs.declared.selector.Selector.{Selector}
use Rattle.node_select.specs.declared.selector.Step.{Step}

-- all steps but the last
abbrev pub parent_steps : List Step → List Step
parent_steps [] = []
parent_steps (s ∷ []) = []
parent_steps (s ∷ r ∷ ss) = s ∷ parent_steps (r ∷ ss)

-- an element has a place where it exists, or its parent does, or it would be the root
abbrev pub element_has_place : List Step → Tree → Bool
element_has_place [] t = false
element_has_place (s ∷ []) t = true
element_has_place (s ∷ r ∷ ss) t =
    is_some (selected_element_path (s ∷ r ∷ ss) t)
    || is_some (selected_element_path (parent_steps (s ∷ r ∷ ss)) t)

-- an attribute has a place where its element exists
abbrev pub attribute_has_place : List Step → Tree → Bool
attribute_has_place steps t = is_some (selected_element_path steps t)

-- a list of bindings has no place
abbrev pub end_has_place : End → List Step → Tree → Bool
end_has_place Element steps t = element_has_place steps t
end_has_place (Attribute uri local) steps t = attribute_has_place steps t
end_has_place Namespaces steps t = false

abbrev pub has_place : Selector → Tree → Bool
has_place selector t = end_has_place selector.end selector.steps t
