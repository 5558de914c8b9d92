-- The element that is the last node.
use Rattle.std.proofs.Common.{◌≡◌, ℕ, zero, suc, ◌-◌, ◌<◌, List, [], ◌∷◌, ◌++◌, length, get_or, slice_set, Some, IsSome, refl, ap, ◌∙◌, arith}
use Rattle.std.proofs.lemmas.List.{length-append}
use Rattle.std.proofs.Math.Seq.{set-append_seam}
use Rattle.xml_tree.specs.Tree.{Tree}
use Rattle.xml_tree.specs.Nodes.{elem_of, last_elem}
use Rattle.xml_tree.specs.declared.tree.Node.{Node}
use Rattle.xml_tree.specs.declared.tree.Node.TheVariants.{Elem}

pub last_there : (ns : List Node) → IsSome (last_elem ns) → 0 < length ns
last_there [] h = absurd cc
last_there (x ∷ ns) h = omega arith

pub last_at : (ns : List Node) (i : ℕ) (d : Node) → suc i ≡ length ns → elem_of (get_or ns i d) ≡ last_elem ns
last_at [] i d h = absurd (omega arith)
last_at (x ∷ []) zero d h = refl
last_at (x ∷ []) (suc i) d h = absurd (omega arith)
last_at (x ∷ y ∷ ns) zero d h = absurd (omega arith)
last_at (x ∷ y ∷ ns) (suc i) d h = last_at (y ∷ ns) i d (omega arith)

-- an element after all other nodes is the last
pub last_elem-push : (ns : List Node) (e : Tree) → last_elem (ns ++ Elem e ∷ []) ≡ Some e
last_elem-push [] e = refl
last_elem-push (x ∷ []) e = refl
last_elem-push (x ∷ y ∷ ns) e = last_elem-push (y ∷ ns) e

-- the last one replaced
pub set-last : (ns : List Node) (x y : Node) → slice_set (ns ++ x ∷ []) (length (ns ++ x ∷ []) - 1) y ≡ ns ++ y ∷ []
set-last ns x y =
    let i : length (ns ++ x ∷ []) - 1 ≡ length ns = omega (arith, length-append ns (x ∷ [])) in
    ap (λ (n : ℕ). slice_set (ns ++ x ∷ []) n y) i ∙ set-append_seam ns x [] y
