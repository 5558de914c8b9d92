-- What lists of declarations declare, and scopes down a path.
use Rattle.std.proofs.Common.{◌≡◌, ℕ, ◌+◌, ◌<◌, List, [], ◌∷◌, ◌++◌, length, drop, get_or, Some, option_map, option_and_then, unwrap_or, slice_get, refl, sym, ap, ◌∙◌, add-one, drop-cons}
use Rattle.xml_tree.specs.Tree.{Tree, at, child_elements_of}
use Rattle.xml_tree.specs.TreeScopes.{scope_at, scope_below}

-- ---- down a path
pub at_next : (ns : List ℕ) (i : ℕ) (t : Tree) → i < length ns → at (drop i ns) t ≡ option_and_then (at (drop (i + 1) ns)) (slice_get (child_elements_of t) (get_or ns i 0))
at_next ns i t within = ap (λ p. at p t) (drop-cons ns i 0 within) ∙ ap (λ j. option_and_then (at (drop j ns)) (slice_get (child_elements_of t) (get_or ns i 0))) (sym (add-one i))

pub scope_at-below : (p : List ℕ) (t : Tree) → scope_at p t ≡ t.decls ∷ scope_below p t
scope_at-below [] t = refl
scope_at-below (n ∷ p) t = refl

pub scope_next : (ns : List ℕ) (i : ℕ) (t k : Tree) → i < length ns → slice_get (child_elements_of t) (get_or ns i 0) ≡ Some k
    → scope_below (drop i ns) t ≡ k.decls ∷ scope_below (drop (i + 1) ns) k
scope_next ns i t k within is =
    ap (λ p. scope_below p t) (drop-cons ns i 0 within) ∙ ap (λ j. unwrap_or (option_map (scope_at (drop j ns)) (slice_get (child_elements_of t) (get_or ns i 0))) []) (sym (add-one i))
    ∙ ap (λ o. unwrap_or (option_map (scope_at (drop (i + 1) ns)) o) []) is ∙ scope_at-below (drop (i + 1) ns) k
