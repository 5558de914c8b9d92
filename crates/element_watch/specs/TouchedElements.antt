-- Which changes touch an element, and where an element was before changes that don't touch it. RFC
-- 5874, section 3, lets a diff document report on elements; that it reports nothing of an element
-- that no change touched is this server's own.
use Rattle.std.specs.Prelude.{◌≡◌, ℕ, List, [], ◌∷◌, ◌⊎◌, Option, Some, option_and_then}
use Rattle.xml_names.specs.declared.names.Name.{Name}
use Rattle.edit_ops.specs.MovedPaths.{moved}
use Rattle.edit_ops.specs.declared.change.Change.{Change}
use Rattle.edit_ops.specs.declared.change.Change.TheVariants.{Insert, Replace, Remove, SetAttr}
use Rattle.edit_ops.specs.declared.change.Change.TheVariants.{DropAttr}
use Rattle.edit_ops.specs.Notes.{Note}
use Rattle.edit_rules.specs.KeyWrites.{IsAtOrBelow}

-- ---- one change

-- an attribute of this name of the element at q is set or removed: that touches p where q is p or
-- below it; and where q is above p, if the name has no prefix, as key attributes have none
abbrev pub TouchesByAttr : List ℕ → List ℕ → Name → Type 0
TouchesByAttr p q name = IsAtOrBelow p q ⊎ (IsAtOrBelow q p × (name.prefix ≡ []))

-- the change touches the element at p:
--     it inserts under it or below it;
--     it replaces or removes an element at it, above it or below it;
--     it sets or removes an attribute at it or below it;
--     it sets or removes an attribute without prefix above it
-- No creation and no removal of a document touches it.
abbrev pub TouchesElement : List ℕ → Change → Type 0
TouchesElement p (Insert parent gap element) = IsAtOrBelow p parent
TouchesElement p (Replace q element) = IsAtOrBelow p q ⊎ IsAtOrBelow q p
TouchesElement p (Remove q) = IsAtOrBelow p q ⊎ IsAtOrBelow q p
TouchesElement p (SetAttr q name value) = TouchesByAttr p q name
TouchesElement p (DropAttr q name) = TouchesByAttr p q name
TouchesElement p _ = ⊥

-- the change moves the first path to the second, and doesn't touch it
pub record MovesUntouched (p : List ℕ) (change : Change) (q : List ℕ) : Type 0 where
  pub goes_on : moved p change ≡ Some q
  pub untouched : TouchesElement p change → ⊥

-- ---- change records one after another, oldest first

-- they move the first path to the second, and none touches it on the way
abbrev pub MovesUntouchedThrough : List ℕ → List Note → List ℕ → Type 0
MovesUntouchedThrough p [] q = p ≡ q
MovesUntouchedThrough p (n ∷ ns) q =
    (next : List ℕ) × (MovesUntouched p n.change next × MovesUntouchedThrough next ns q)

-- where they move a path, touched or not
abbrev pub moved_through : List ℕ → List Note → Option (List ℕ)
moved_through p [] = Some p
moved_through p (n ∷ ns) = option_and_then (λ q. moved_through q ns) (moved p n.change)
