-- Locations as the code has them.
use Rattle.std.specs.Prelude.{◌≡◌, ◌<◌, ℕ, List, length, position, Option, None, Some, IsSome}
use Rattle.std.specs.Prelude.{IsSomeAnd}
use Rattle.xml_tree.specs.Nodes.{nodes_of}
use Rattle.xml_tree.specs.Tree.{Tree, at}
use Rattle.patch_rules.specs.PatchOperations as words
use Rattle.patch_apply.specs.declared.locations.Location.{Location}
use Rattle.patch_apply.specs.declared.locations.Location.TheVariants.{AtElement, AtAttr, AtText}

abbrev pub path_of_location : Location → List ℕ
path_of_location (AtElement p) = p
path_of_location (AtAttr p i) = p
path_of_location (AtText p i) = p

-- the location is in the tree: the element, the attribute of the number, or the node of the number
abbrev pub LocationExists : Tree → Location → Type 0
LocationExists t (AtElement p) = IsSome (at p t)
LocationExists t (AtAttr p i) = IsSomeAnd (at p t) (λ e. i < length e.attrs)
LocationExists t (AtText p i) = IsSomeAnd (at p t) (λ e. i < length (nodes_of e.content))

-- the same location: the attribute of the number is the first that passes the test
abbrev pub IsSameLocation : Tree → Location → words.Location → Type 0
IsSameLocation t (AtElement p) (words.AtElement q) = p ≡ q
IsSameLocation t (AtElement p) (words.AtAttr q f) = ⊥
IsSameLocation t (AtElement p) (words.AtText q j) = ⊥
IsSameLocation t (AtAttr p i) (words.AtElement q) = ⊥
IsSameLocation t (AtAttr p i) (words.AtAttr q f) =
    (p ≡ q) × IsSomeAnd (at p t) (λ e. position f e.attrs ≡ Some i)
IsSameLocation t (AtAttr p i) (words.AtText q j) = ⊥
IsSameLocation t (AtText p i) (words.AtElement q) = ⊥
IsSameLocation t (AtText p i) (words.AtAttr q f) = ⊥
IsSameLocation t (AtText p i) (words.AtText q j) = (p ≡ q) × (i ≡ j)

-- the stated location, or none
abbrev pub LocatesAs : Tree → Option words.Location → Option Location → Type 0
LocatesAs t stated None = stated ≡ None
LocatesAs t stated (Some s) =
    LocationExists t s × ((w : words.Location) × (stated ≡ Some w) × IsSameLocation t s w)
