-- An edit that isn't one within the root replaces the root by the element that it puts.
use Rattle.std.proofs.Common.{◌≡◌, false, [], ◌∷◌, refl}
use Rattle.xml_tree.specs.Tree.{Tree}
use Rattle.edit_ops.specs.Changes.{FitsTree, edited}
use Rattle.edit_ops.specs.declared.change.Change.{Change}
use Rattle.edit_ops.specs.declared.change.Change.TheVariants.{CreateDocument, Insert, Replace, Remove, SetAttr, DropAttr, RemoveDocument}
use Rattle.edit_ops.specs.InsertedElements.{InsertsElement, inserted_element}
use Rattle.store_core.specs.TreeChanges.{edits_within_root}

pub brings-whole : (t : Tree) (change : Change) → FitsTree t change → edits_within_root change ≡ false → InsertsElement change
brings-whole t (CreateDocument root) fits whole = tt
brings-whole t (Insert parent gap element) fits whole = tt
brings-whole t (Replace p element) fits whole = tt
brings-whole t (Remove p) fits whole = cc
brings-whole t (SetAttr p name value) fits whole = cc
brings-whole t (DropAttr p name) fits whole = cc
brings-whole t RemoveDocument fits whole = absurd fits

pub whole-edited : (t : Tree) (change : Change) → FitsTree t change → edits_within_root change ≡ false → inserted_element change ≡ edited t change
whole-edited t (CreateDocument root) fits whole = absurd fits
whole-edited t (Insert parent gap element) fits whole = cc
whole-edited t (Replace [] element) fits whole = refl
whole-edited t (Replace (n ∷ p) element) fits whole = cc
whole-edited t (Remove p) fits whole = cc
whole-edited t (SetAttr p name value) fits whole = cc
whole-edited t (DropAttr p name) fits whole = cc
whole-edited t RemoveDocument fits whole = absurd fits
