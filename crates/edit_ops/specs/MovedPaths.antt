-- Where an element is after a change, by its path before.
use Rattle.std.specs.Prelude.{◌≡◌, ℕ, suc, ◌-◌, ◌==◌, nat_le, List, [], ◌∷◌, ◌++◌, Option, Some}
use Rattle.std.specs.Prelude.{None, if◌then◌else◌}
use Rattle.xml_tree.specs.Tree.{Tree, at}
use Rattle.xml_tree.specs.Edits.{parent_path, last_number}
use Rattle.edit_ops.specs.Changes.{place}
use Rattle.edit_ops.specs.declared.change.Change.{Change}
use Rattle.edit_ops.specs.declared.change.Change.TheVariants.{CreateDocument, Insert, Replace}
use Rattle.edit_ops.specs.declared.change.Change.TheVariants.{Remove, SetAttr, DropAttr}
use Rattle.edit_ops.specs.declared.change.Change.TheVariants.{RemoveDocument}

-- the rest of p after q, where p begins with q: the path from the element at q to the one at p
abbrev pub path_below : List ℕ → List ℕ → Option (List ℕ)
path_below [] p = Some p
path_below (m ∷ q) [] = None
path_below (m ∷ q) (n ∷ p) = if m == n then path_below q p else None

-- the path below an element, once an element was inserted into its gap j
abbrev pub shift_after_insert : ℕ → List ℕ → List ℕ
shift_after_insert j [] = []
shift_after_insert j (n ∷ p) = (if nat_le j n then suc n else n) ∷ p

-- the path below an element, once its i-th child was removed
abbrev pub shift_after_remove : ℕ → List ℕ → List ℕ
shift_after_remove i [] = []
shift_after_remove i (n ∷ p) = (if nat_le (suc i) n then n - 1 else n) ∷ p

-- a path whose rest after q is changed by f; one that doesn't lead through the element at q stays
abbrev pub path_with_new_rest : (List ℕ → List ℕ) → List ℕ → List ℕ → Option (List ℕ) → List ℕ
path_with_new_rest f q p None = p
path_with_new_rest f q p (Some r) = q ++ f r

abbrev pub change_path_below : (List ℕ → List ℕ) → List ℕ → List ℕ → List ℕ
change_path_below f q p = path_with_new_rest f q p (path_below q p)

-- the second value, where the first is absent
abbrev pub if_none_then : {A B : Type 0} → Option A → B → Option B
if_none_then None b = Some b
if_none_then (Some a) b = None

-- where the element at p is after the change: one number up after an insertion before it, one
-- down after a removal before it; nowhere where it, or an ancestor of it, was replaced or
-- removed, or the whole document was created or removed
abbrev pub moved : List ℕ → Change → Option (List ℕ)
moved p (CreateDocument root) = None
moved p (Insert parent gap element) = Some (change_path_below (shift_after_insert gap) parent p)
moved p (Replace q element) = if_none_then (path_below q p) p
moved p (Remove q) =
    if_none_then (path_below q p)
    (change_path_below (shift_after_remove (last_number q)) (parent_path q) p)
moved p (SetAttr q name value) = Some p
moved p (DropAttr q name) = Some p
moved p RemoveDocument = None

-- each element that the change isn't at or inside, and that still exists, is found unchanged
-- where `moved` says
abbrev pub KeepsOtherElements : Tree → Change → Tree → Type 0
KeepsOtherElements t change new =
    (p q : List ℕ) → path_below p (place change) ≡ None → moved p change ≡ Some q → at q new
    ≡ at p t
