-- The memory of a change: at the element that it is made in, and in the whole tree.
use Rattle.std.proofs.Common.{◌≡◌, ℕ, List, Option, Some, None, IsSome, IsSomeAnd, refl, sym, ap, ◌∙◌}
use Rattle.xml_tree.specs.Tree.{Tree, at}
use Rattle.xml_tree.specs.Edits.{TextsMeet, change_at, last_number, parent_path, put_over}
use Rattle.xml_tree.proofs.PathLemmas.{from_there, made_at, with_there}
use Rattle.edit_ops.specs.declared.change.Change.{Change}
use Rattle.edit_ops.specs.declared.change.Change.TheVariants.{CreateDocument, Insert, Replace, Remove, SetAttr, DropAttr, RemoveDocument}
use Rattle.edit_ops.specs.Changes.{FitsTree, NeedsMemory, edited}
use Rattle.edit_ops.specs.ChangeSites.{change_site}
use Rattle.edit_ops.specs.inner.LocalChanges.{FitsLocally, local_result}
use Rattle.edit_ops.specs.inner.LocalChanges.{NeedsMemoryLocally}
use Rattle.edit_ops.proofs.SiteLemmas.{edited_there, fits_there}

is_there : (o : Option Tree) (P : Tree → Type 0) → IsSomeAnd o P → IsSome o
is_there None P h = absurd h
is_there (Some e) P h = refl

not_there : (o : Option Tree) (P : Tree → Type 0) → IsSomeAnd o P → o ≡ None → ⊥
not_there None P h e = absurd h
not_there (Some x) P h e = cc

-- a change that fits a tree has its site in it, and fits the element there
pub site_there : (t : Tree) (change : Change) → FitsTree t change → IsSome (at (change_site change) t)
site_there t change fits = is_there (at (change_site change) t) (FitsLocally change) (fits_there t change fits)

pub site_missing : (t : Tree) (change : Change) → FitsTree t change → at (change_site change) t ≡ None → ⊥
site_missing t change fits none = not_there (at (change_site change) t) (FitsLocally change) (fits_there t change fits) none

pub fits_at : (t e : Tree) (change : Change) → FitsTree t change → at (change_site change) t ≡ Some e → FitsLocally change e
fits_at t e change fits is = from_there (at (change_site change) t) (FitsLocally change) e (fits_there t change fits) is

-- the change may allocate in the tree where it may at its site
pub wants_at : (t e : Tree) (change : Change) → at (change_site change) t ≡ Some e → NeedsMemoryLocally change e → NeedsMemory t change
wants_at t e (CreateDocument root) is h = absurd h
wants_at t e (Insert parent gap element) is h = tt
wants_at t e (Replace p element) is h = tt
wants_at t e (Remove p) is h = with_there (at (parent_path p) t) (λ x. TextsMeet (last_number p) x.content) e is h
wants_at t e (SetAttr p name value) is h = tt
wants_at t e (DropAttr p name) is h = absurd h
wants_at t e RemoveDocument is h = absurd h

-- what is left at the site, where it is what the change makes of the element there
pub made_there : (t here left new : Tree) (change : Change) (p : List ℕ) → p ≡ change_site change → at p t ≡ Some here → left ≡ local_result change here → new ≡ put_over p left t
    → new ≡ edited t change
made_there t here left new change p is there made put =
    made_at p (local_result change) here left t new there made put ∙ ap (λ q. change_at q (local_result change) t) is ∙ sym (edited_there t change)
