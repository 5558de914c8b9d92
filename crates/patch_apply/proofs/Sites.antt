-- Parents of elements, and places among their nodes.
use Rattle.std.proofs.Common.{◌≡◌, ℕ, ◌<◌, List, [], ◌∷◌, ◌++◌, length, Option, None, Some, IsSome, option_map, option_and_then, unwrap_or, refl, sym, ap, ◌∙◌, subst}
use Rattle.xml_tree.specs.Edits.{parent_path}
use Rattle.xml_tree.specs.Nodes.{nodes_of, place}
use Rattle.xml_tree.specs.TreeScopes.{scope_around, scope_at}
use Rattle.xml_tree.specs.Tree.{Content, Tree, at, child_elements, child_elements_of}
use Rattle.xml_tree.proofs.PathLemmas.{at-snoc, final-snoc, front-snoc, from_there, kid_there}
use Rattle.xml_tree.proofs.Places.{content_of-nodes_of, place_there}
use Rattle.patch_rules.specs.PatchOperations.{nodes_at, index_in_parent}

some_before : {A : Type 0} (f : Tree → Option A) (o : Option Tree) → IsSome (option_and_then f o) → IsSome o
some_before f None h = h
some_before f (Some e) h = refl

-- an element that isn't the root has a parent, whose scope is the one around the element
pub there_above : (path parent : List ℕ) (k : ℕ) (t : Tree) → path ≡ parent ++ k ∷ [] → IsSome (at path t) → IsSome (at parent t)
there_above path parent k t is h = some_before _ (at parent t) (subst IsSome (ap (λ q. at q t) is ∙ at-snoc parent k t) h)

pub scope_above : (path parent : List ℕ) (k : ℕ) (t : Tree) → path ≡ parent ++ k ∷ [] → scope_around path t ≡ scope_at parent t
scope_above path parent k t is = ap (λ q. scope_around q t) is ∙ around parent
  where
    around : (p : List ℕ) → scope_around (p ++ k ∷ []) t ≡ scope_at p t
    around [] = refl
    around (n ∷ p) = ap (λ q. scope_at q t) (front-snoc (n ∷ p) k)

pub front_is : (path parent : List ℕ) (k : ℕ) → path ≡ parent ++ k ∷ [] → parent ≡ parent_path path
front_is path parent k is = sym (ap parent_path is ∙ front-snoc parent k)

-- an element that is there can't be missing
pub is_there : (o : Option Tree) → None ≡ o → IsSome o → ⊥
is_there None e h = cc
is_there (Some x) e h = cc

-- the nodes of an element in the tree
pub nodes_are : (p : List ℕ) (t e : Tree) → at p t ≡ Some e → nodes_at p t ≡ nodes_of e.content
nodes_are p t e is = ap (λ (o : Option Tree). unwrap_or (option_map (λ x. nodes_of x.content) o) []) is

pub place_is : (path parent : List ℕ) (k : ℕ) (t e : Tree) → path ≡ parent ++ k ∷ [] → at parent t ≡ Some e → place k (nodes_of e.content) ≡ index_in_parent path t
place_is path parent k t e is there =
    sym (
    ap (λ q. index_in_parent q t) is ∙ (λ i. place (final-snoc parent k i) (nodes_at (front-snoc parent k i) t))
    ∙ ap (place k) (nodes_are parent t e there)
    )

pub place_within : (path parent : List ℕ) (k : ℕ) (t e : Tree) → path ≡ parent ++ k ∷ [] → IsSome (at path t) → at parent t ≡ Some e → place k (nodes_of e.content) < length (nodes_of e.content)
place_within path parent k t e is h there =
    let below = subst IsSome (ap (λ q. at q t) is ∙ at-snoc parent k t) h in
    let inside = from_there (at parent t) (λ x. k < length (child_elements_of x)) e (kid_there (at parent t) k below) there in
    place_there k (nodes_of e.content) (subst (λ (x : Content). k < length (child_elements x)) (sym (content_of-nodes_of e.content)) inside)
