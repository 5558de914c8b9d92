-- All steps but the last, as a prefix of the list.
use Rattle.std.proofs.Common.{◌≡◌, ◌-◌, List, [], ◌∷◌, length, take, refl, ap, ◌∙◌, arith}
use Rattle.node_select.specs.declared.selector.Step.{Step}
use Rattle.reply_bodies.specs.NodePlaces.{parent_steps}

front_of : (s : Step) (ss : List Step) → take (length ss) (s ∷ ss) ≡ parent_steps (s ∷ ss)
front_of s [] = refl
front_of s (r ∷ ss) = ap (λ (z : List Step). s ∷ z) (front_of r ss)

pub front_is : (ss : List Step) → take (length ss - 1) ss ≡ parent_steps ss
front_is [] = refl
front_is (s ∷ ss) =
    let one_less : length (s ∷ ss) - 1 ≡ length ss = omega arith in
    ap (λ n. take n (s ∷ ss)) one_less ∙ front_of s ss
