-- The trees, change records and scopes that the laws of diff documents are about.
use Rattle.std.specs.Prelude.{◌≡◌, ◌≢◌, ℕ, IsSome, ◌<◌, ◌≤◌, List, [], ◌∷◌, length}
use Rattle.std.specs.List.{AllByRecursion}
use Rattle.xml_names.specs.declared.limits.TheConstants.{MAX_LEVELS}
use Rattle.xml_names.specs.Markup.{byte_len}
use Rattle.xml_tree.specs.Print.{print}
use Rattle.xml_tree.specs.Proper.{IsProperTree}
use Rattle.xml_names.specs.Scopes.{bound_uri}
use Rattle.xml_tree.specs.Tree.{Tree, height}
use Rattle.xml_names.specs.declared.names.Decl.{Decl}
use Rattle.node_select.specs.declared.steps.TheConstants.{MAX_POSITION}
use Rattle.edit_ops.specs.Changes.{edited}
use Rattle.edit_ops.specs.Notes.{Note}

-- ---- paths

-- the number of a child whose position, counted from 1, can be read: a position above the greatest
-- is read as 0, which no child has
abbrev pub IsReadablePosition : ℕ → Type 0
IsReadablePosition n = n < MAX_POSITION

abbrev pub AreReadablePositions : List ℕ → Type 0
AreReadablePositions p = AllByRecursion IsReadablePosition p

-- ---- scopes

-- the scope around the operations of a diff document, where the root alone declares something: one
-- prefix
abbrev pub scope_around_operations : List ℕ → List ℕ → List (List Decl)
scope_around_operations prefix uri = (record { prefix = prefix; uri = uri } ∷ []) ∷ [] ∷ []

-- what the first scope binds, and its default, is bound alike in the second, which may bind more
abbrev pub BindsAlike : List (List Decl) → List (List Decl) → Type 0
BindsAlike c d = (p : List ℕ) → (p ≢ [] → IsSome (bound_uri c p)) → bound_uri c p ≡ bound_uri d p

-- ---- trees and change records

-- a tree that a replica may have: proper, and not too deep
abbrev pub IsReplicaTree : Tree → Type 0
IsReplicaTree t = IsProperTree [] t × (height t ≤ MAX_LEVELS)

-- a tree before or after a diff document; also, its print isn't too long, so that each position in
-- it can be read
pub record IsDiffableTree (t : Tree) : Type 0 where
  pub proper : IsProperTree [] t
  pub low : height t ≤ MAX_LEVELS
  pub short : byte_len (print t) ≤ MAX_POSITION

-- the tree before the change records, and the tree after each
abbrev pub AreDiffableTrees : Tree → List Note → Type 0
AreDiffableTrees t [] = IsDiffableTree t
AreDiffableTrees t (n ∷ ns) = IsDiffableTree t × AreDiffableTrees (edited t n.change) ns

-- there are at most 2147483647 change records
abbrev pub HasFewNotes : List Note → Type 0
HasFewNotes ns = length ns ≤ 2147483647
