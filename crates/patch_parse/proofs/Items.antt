-- Items of a list that is read.
use Rattle.std.proofs.Common.{◌≡◌, Bor, ◌<◌, List, [], ◌∷◌, length, map, get_or, sym, ap, arith}
use Rattle.xml_tree.specs.Tree.{Tree}

-- the only item
pub one_item : (xs : List (Bor Tree)) (x : Bor Tree) → 0 < length xs → length xs < 2 → x ≡ get_or xs 0 x → map (λ y. y.now) xs ≡ x.now ∷ []
one_item [] x some one is = absurd (omega arith)
one_item (y ∷ []) x some one is = ap (λ (z : Bor Tree). z.now ∷ []) (sym is)
one_item (y ∷ z ∷ xs) x some one is = absurd (omega arith)
