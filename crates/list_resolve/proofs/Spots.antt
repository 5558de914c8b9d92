-- An element below another has no more levels than that.
use Rattle.std.proofs.Common.{◌≡◌, ◌≤◌, ◌<◌, Option, Some, None, IfSome, ap, arith}
use Rattle.xml_tree.specs.Tree.{Tree, height}
use Rattle.list_resolve.specs.declared.scoped_element.ScopedElement.{ScopedElement as CodeSpot}

pub low_of : (r : Option CodeSpot) (k e : Tree) → IfSome r (λ s. s.element.now ≡ k) → height k < height e → IfSome r (λ s. height s.element.now ≤ height e)
low_of None k e h lt = tt
low_of (Some s) k e h lt = let same : height s.element.now ≡ height k = ap height h in omega arith
