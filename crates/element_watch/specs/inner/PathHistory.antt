-- Where an element was before changes that don't touch it, computed.
use Rattle.std.specs.Prelude.{ℕ, Bool, true, false, ◌==◌, ◌&&◌, ◌||◌, not, List, [], ◌∷◌, ◌++◌}
use Rattle.std.specs.Prelude.{Option, None, Some, is_some, option_map, option_and_then}
use Rattle.std.specs.Prelude.{if◌then◌else◌}
use Rattle.std.specs.Str.{bytes_eq}
use Rattle.xml_tree.specs.Edits.{last_number, parent_path}
use Rattle.xml_names.specs.declared.names.Name.{Name}
use Rattle.edit_ops.specs.MovedPaths.{path_below, shift_after_remove, shift_after_insert}
use Rattle.edit_ops.specs.MovedPaths.{change_path_below}
use Rattle.edit_ops.specs.declared.change.Change.{Change}
use Rattle.edit_ops.specs.declared.change.Change.TheVariants.{CreateDocument, Insert, Replace}
use Rattle.edit_ops.specs.declared.change.Change.TheVariants.{Remove, SetAttr, DropAttr}
use Rattle.edit_ops.specs.declared.change.Change.TheVariants.{RemoveDocument}
use Rattle.edit_ops.specs.Notes.{Note}

-- the path before another child was inserted at insertion point j: None for that child
abbrev pub undo_insertion : ℕ → List ℕ → Option (List ℕ)
undo_insertion j [] = Some []
undo_insertion j (n ∷ r) = if n == j then None else Some (shift_after_remove j (n ∷ r))

-- a path whose part after q, if it has one, is changed by f, unless f gives None
abbrev pub map_path_below : (List ℕ → Option (List ℕ)) → List ℕ → List ℕ → Option (List ℕ)
    → Option (List ℕ)
map_path_below f q p None = Some p
map_path_below f q p (Some r) = option_map (λ s. q ++ s) (f r)

-- whether a path isn't the root's
abbrev pub is_below_root : List ℕ → Bool
is_below_root [] = false
is_below_root (n ∷ p) = true

-- whether an attribute of this name of the element at w touches the one at q
abbrev pub is_touched : List ℕ → List ℕ → Name → Bool
is_touched q w name = is_some (path_below q w)
    || (is_some (path_below w q) && bytes_eq name.prefix [])

-- where the element at q was before the change: None where the change inserted or touched it
abbrev pub path_before_change : List ℕ → Change → Option (List ℕ)
path_before_change q (CreateDocument root) = None
path_before_change q (Insert parent gap element) =
    if is_some (path_below q parent) then None
    else map_path_below (undo_insertion gap) parent q (path_below parent q)
path_before_change q (Replace w element) =
    if is_some (path_below q w) || is_some (path_below w q) then None else Some q
path_before_change q (Remove w) =
    if is_below_root w && not (is_some (path_below q (parent_path w)))
    then Some (change_path_below (shift_after_insert (last_number w)) (parent_path w) q)
    else None
path_before_change q (SetAttr w name value) = if is_touched q w name then None else Some q
path_before_change q (DropAttr w name) = if is_touched q w name then None else Some q
path_before_change q RemoveDocument = None

-- where the element was before recorded changes, oldest first
abbrev pub path_before_notes : List ℕ → List Note → Option (List ℕ)
path_before_notes q [] = Some q
path_before_notes q (n ∷ ns) =
    option_and_then (λ m. path_before_change m n.change) (path_before_notes q ns)
