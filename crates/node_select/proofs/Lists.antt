-- A scope with lists of declarations inside it, one after the other.
use Rattle.std.proofs.Common.{◌≡◌, ◌≤◌, ◌<◌, ◌-◌, ℕ, List, [], ◌∷◌, ◌++◌, Bor, length, map, take, drop, get_or, refl, ap, arith, append-nil, append_assoc}
use Rattle.xml_names.specs.declared.names.Decl.{Decl}

-- what borrowed lists hold
abbrev held : List (Bor (List Decl)) → List (List Decl)
held ls = map (λ x. x.now) ls

all : (ls : List (Bor (List Decl))) (n : ℕ) → n ≡ length ls → take n ls ≡ ls
all [] n e = rw e refl
all (x ∷ ls) n e = rw e (ap (λ xs. x ∷ xs) (all ls (length ls) refl))

pub none_inside : (c : List (List Decl)) (ls : List (Bor (List Decl))) → length ls < 1 → c ++ held ls ≡ c
none_inside c [] h = append-nil c
none_inside c (x ∷ ls) h = absurd (omega arith)

pub first_inside : (c : List (List Decl)) (ls : List (Bor (List Decl))) (x : Bor (List Decl)) → 1 ≤ length ls → x ≡ get_or ls 0 x
    → (c ++ x.now ∷ []) ++ held (take (length ls - 1) (drop 1 ls)) ≡ c ++ held ls
first_inside c [] x h is = absurd (omega arith)
first_inside c (y ∷ ls) x h is =
    rw (is, all ls (length (y ∷ ls) - 1) (omega arith)) (append_assoc c (y.now ∷ []) (held ls))
