-- The element that a change is made in, and the path to it.
use Rattle.std.proofs.Common.{◌≡◌, ℕ, zero, suc, ◌<◌, List, [], ◌∷◌, ◌++◌, length, Option, Some, None, IsSome, IsSomeAnd, refl, sym, ap, ◌∙◌, subst, arith}
use Rattle.std.specs.List.{slice_get}
use Rattle.std.specs.Option.{option_and_then}
use Rattle.xml_tree.specs.Tree.{Content, last, more, comment_node, more_of, Tree, at, child_elements, child_elements_of}
use Rattle.xml_tree.specs.Edits.{change_element, change_at, change_child, last_number, parent_path}
use Rattle.xml_tree.proofs.PathLemmas.{at-snoc, kid_there}
use Rattle.edit_ops.specs.declared.change.Change.{Change}
use Rattle.edit_ops.specs.declared.change.Change.TheVariants.{CreateDocument, Insert, Replace, Remove, SetAttr, DropAttr, RemoveDocument}
use Rattle.edit_ops.specs.Changes.{FitsTree, edited}
use Rattle.edit_ops.specs.ChangeSites.{change_site}
use Rattle.edit_ops.specs.inner.LocalChanges.{FitsLocally, local_result}

-- ---- existing elements

some_there : (o : Option Tree) → IsSome o → IsSomeAnd o (λ _. Unit {0})
some_there None h = cc
some_there (Some e) h = tt

some_before : {A : Type 0} (f : Tree → Option A) (o : Option Tree) → IsSome (option_and_then f o) → IsSome o
some_before f None h = h
some_before f (Some e) h = refl

there_with : (o : Option Tree) (P Q : Tree → Type 0) → ((e : Tree) → P e → Q e) → IsSomeAnd o P → IsSomeAnd o Q
there_with None P Q f h = h
there_with (Some e) P Q f h = f e h

-- a path that isn't empty is the path of the parent and a number
parent_and_number : (p : List ℕ) → 0 < length p → p ≡ parent_path p ++ last_number p ∷ []
parent_and_number [] h = absurd (omega arith)
parent_and_number (n ∷ []) h = refl
parent_and_number (n ∷ m ∷ p) h = ap (λ l. n ∷ l) (parent_and_number (m ∷ p) (omega arith))

-- a change that fits a tree fits the element at its site
pub fits_there : (t : Tree) (change_element : Change) → FitsTree t change_element → IsSomeAnd (at (change_site change_element) t) (FitsLocally change_element)
fits_there t (CreateDocument root) fits = absurd fits
fits_there t (Insert parent gap element) fits = fits
fits_there t (Replace p element) fits = some_there (at p t) fits
fits_there t (Remove p) fits =
    let below = subst IsSome (ap (λ q. at q t) (parent_and_number p fits.0) ∙ at-snoc (parent_path p) (last_number p) t) fits.1 in
    there_with (at (parent_path p) t) (λ e. last_number p < length (child_elements_of e)) (FitsLocally (Remove p)) (λ e h. (fits.0, h)) (kid_there (at (parent_path p) t) (last_number p) below)
fits_there t (SetAttr p name value) fits = some_there (at p t) fits
fits_there t (DropAttr p name) fits = some_there (at p t) (some_before _ (at p t) fits)
fits_there t RemoveDocument fits = absurd fits

-- a change of a tree is a change of the element at its site
pub edited_there : (t : Tree) (change_element : Change) → edited t change_element ≡ change_at (change_site change_element) (local_result change_element) t
edited_there t (CreateDocument root) = refl
edited_there t (Insert parent gap element) = refl
edited_there t (Replace p element) = refl
edited_there t (Remove p) = refl
edited_there t (SetAttr p name value) = refl
edited_there t (DropAttr p name) = refl
edited_there t RemoveDocument = refl

-- ---- one step of the path

-- the child that f makes of the existing one
made_child : (n : ℕ) (f : Tree → Tree) (k : Tree) (c : Content) → slice_get (child_elements c) n ≡ Some k → change_element n (λ _. f k) c ≡ change_element n f c
made_child n f k (last t) is = refl
made_child zero f k (more t m ds ats c rest) is = ap (λ x. more_of t (f x) rest) (sym (cc))
made_child (suc n) f k (more t m ds ats c rest) is = ap (more t m ds ats c) (made_child n f k rest is)
made_child n f k (comment_node t c rest) is = ap (comment_node t c) (made_child n f k rest is)

pub made_below : (n : ℕ) (f : Tree → Tree) (k w t : Tree) → slice_get (child_elements_of t) n ≡ Some k → w ≡ f k → change_child n (λ _. w) t ≡ change_child n f t
made_below n f k w t is made = ap (λ x. change_child n (λ _. x) t) made ∙ ap (λ (x : Content). record t { content = x }) (made_child n f k t.content is)
