-- What the address of a PUT means in a document: its edit target, a `Spot`. RFC 4825, section
-- 8.2.1: the parent is what all steps but the last select; sections 8.2.3 and 8.2.4: where the
-- address already selects something it is replaced, else the new node is inserted under the
-- parent.
use Rattle.std.specs.Prelude.{◌≡◌, ℕ, List, [], ◌∷◌, ◌++◌, Result, Ok, Err}
use Rattle.xml_tree.specs.Tree.{Tree}
use Rattle.node_select.specs.Selection.{SelectsPath, IsLongestMatch}
use Rattle.node_select.specs.declared.selector.Step.{Step}
use Rattle.node_select.specs.declared.selector.End.{End}
use Rattle.node_select.specs.declared.selector.End.TheVariants as ends
use Rattle.node_select.specs.declared.selector.Selector.{Selector}
use Rattle.edit_rules.specs.declared.spot.Spot.{Spot}
use Rattle.edit_rules.specs.declared.spot.Spot.TheVariants.{Over, Under, Beside, Value}
use Rattle.edit_rules.specs.declared.spot.NoParent.{NoParent}

-- the steps select nothing
abbrev pub SelectNothing : List Step → Tree → Type 0
SelectNothing steps t = (p : List ℕ) → SelectsPath steps t p → ⊥

-- all steps but the last select the element at q
pub record SelectsParent (steps : List Step) (t : Tree) (q : List ℕ) : Type 0 where
  pub before : List Step
  pub step : Step
  pub are : steps ≡ before ++ step ∷ []
  pub selects : SelectsPath before t q

-- the selector ends in an attribute
abbrev pub EndsInAttribute : End → Type 0
EndsInAttribute end = (uri : List ℕ) × ((local : List ℕ) × (end ≡ ends.Attribute uri local))

-- an edit target of a selector:
--     Over p     it ends in an element, and the steps select the element at p
--     Under q    it ends in an element, the steps select nothing, and all but the last select q
--     Beside     it ends in an element, has one step, and that selects nothing
--     Value p    it ends in an attribute, and the steps select the element at p
abbrev pub IsSpotOf : Tree → Selector → Spot → Type 0
IsSpotOf t selector (Over p) = (selector.end ≡ ends.Element) × SelectsPath selector.steps t p
IsSpotOf t selector (Under q) =
    (selector.end ≡ ends.Element) × SelectNothing selector.steps t
    × SelectsParent selector.steps t q
IsSpotOf t selector Beside =
    (selector.end ≡ ends.Element) × SelectNothing selector.steps t
    × ((step : Step) × (selector.steps ≡ step ∷ []))
IsSpotOf t selector (Value p) = EndsInAttribute selector.end × SelectsPath selector.steps t p

-- the edit target of an address; where there is none, the greatest number of its first steps that
-- select an element
abbrev pub IsSpot : Tree → Selector → Result Spot NoParent → Type 0
IsSpot t selector (Ok spot) = IsSpotOf t selector spot
IsSpot t selector (Err none) =
    IsLongestMatch selector.steps t none.steps × ((spot : Spot) → IsSpotOf t selector spot → ⊥)
