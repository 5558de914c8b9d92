-- What is recorded of a change, so that an xcap-diff document about it can be written later:
-- change records (`Note`). RFC 5261, section 4.2.3, on namespaces in what an operation adds.
use Rattle.std.specs.Prelude.{◌≡◌, ℕ, Bool, false, List, [], ◌∷◌, is_none}
use Rattle.xml_tree.specs.Tree.{Tree}
use Rattle.xml_tree.specs.Edits.{attr_at}
use Rattle.xml_names.specs.Scopes.{in_scope_bindings}
use Rattle.xml_tree.specs.TreeScopes.{scope_at, scope_around}
use Rattle.xml_names.specs.declared.names.Decl.{Decl}
use Rattle.edit_ops.specs.declared.change.Change.{Change}
use Rattle.edit_ops.specs.declared.change.Change.TheVariants.{Insert, Replace, Remove, SetAttr}
use Rattle.edit_ops.specs.declared.change.Change.TheVariants.{DropAttr}
use Rattle.edit_ops.specs.Changes.{FitsTree, edited}

-- a change record: the tags before and after the change, all bindings in scope at its place, the
-- change, and whether it writes a new attribute
pub record Note : Type 0 where
  pub previous : ℕ
  pub next : ℕ
  pub bindings : List Decl
  pub change : Change
  pub fresh : Bool

-- the scope of the place of a change: of the parent for an inserted, replaced or removed element,
-- of the element for an attribute; a document has none
abbrev pub scope_of_place : Tree → Change → List (List Decl)
scope_of_place t (Insert parent gap element) = scope_at parent t
scope_of_place t (Replace p element) = scope_around p t
scope_of_place t (Remove p) = scope_around p t
scope_of_place t (SetAttr p name value) = scope_at p t
scope_of_place t (DropAttr p name) = scope_at p t
scope_of_place t _ = []

-- whether the change writes an attribute that the tree doesn't have before
abbrev pub is_fresh : Tree → Change → Bool
is_fresh t (SetAttr p name value) = is_none (attr_at p name t)
is_fresh t _ = false

-- the record of a change of the tree t with the first tag, where the tree after it gets the
-- second tag
abbrev pub note_of : ℕ → ℕ → Tree → Change → Note
note_of previous next t change =
    record {
      previous = previous;
      next = next;
      bindings = in_scope_bindings (scope_of_place t change);
      change = change;
      fresh = is_fresh t change;
    }

-- the records of successive changes, from a tree and its tag on; each change fits the tree that
-- the changes before it left
abbrev pub AreNotesOf : ℕ → Tree → List Note → Type 0
AreNotesOf tag t [] = Unit {0}
AreNotesOf tag t (n ∷ ns) =
    FitsTree t n.change × (n ≡ note_of tag n.next t n.change)
    × AreNotesOf n.next (edited t n.change) ns

-- the tree and the tag after them
abbrev pub tree_after : Tree → List Note → Tree
tree_after t [] = t
tree_after t (n ∷ ns) = tree_after (edited t n.change) ns

abbrev pub tag_after : ℕ → List Note → ℕ
tag_after tag [] = tag
tag_after tag (n ∷ ns) = tag_after n.next ns
