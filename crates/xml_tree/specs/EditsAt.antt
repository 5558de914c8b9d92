-- What a closure did to the element at a path.
use Rattle.std.specs.Prelude.{◌≡◌, ℕ, List, Some}
use Rattle.std.specs.Fn.{FnOnceReturnsAtMut, Once}
use Rattle.std.specs.Borrow.{MutBor}
use Rattle.xml_tree.specs.Tree.{Tree, at}
use Rattle.xml_tree.specs.Edits.{put_over}

-- the closure f was called once, with the element at the path p of the old tree, and returned r;
-- what it left there is the only difference between the old and the new tree
pub record EditsAt {F R : Type 0}
    (g : Once F (MutBor Tree × Unit {0}) (R × (MutBor Tree × Unit {0}))) (f : F) (p : List ℕ)
    (old : Tree) (r : R) (new : Tree) : Type 0 where
  pub here : Tree
  pub left : Tree
  pub there : at p old ≡ Some here
  pub edits : FnOnceReturnsAtMut g f here r left
  pub put : new ≡ put_over p left old
