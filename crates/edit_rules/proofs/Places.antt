-- The element at a place: putting it back changes nothing, and a change there is its replacement
-- by the result.
use Rattle.std.proofs.Common.{◌≡◌, ℕ, zero, suc, List, [], ◌∷◌, ◌++◌, Option, Some, option_map, unwrap_or, slice_get, refl, sym, ap, ◌∙◌, subst}
use Rattle.std.proofs.lemmas.Option.{same_Some}
use Rattle.xml_tree.specs.Tree.{Content, last, more, comment_node, more_of, Tree, tree_of, child_elements, child_elements_of, at}
use Rattle.xml_tree.specs.Edits.{change_element, change_at, put_over}
use Rattle.xml_tree.specs.TreeScopes.{scope_at}
use Rattle.xml_names.specs.declared.names.Decl.{Decl}
use Rattle.edit_rules.proofs.Options.{through_kid}

-- two changes with equal results on a child
change_alike : (n : ℕ) (f g : Tree → Tree) (content : Content) (child_element : Tree) → slice_get (child_elements content) n ≡ Some child_element → f child_element ≡ g child_element → change_element n f content ≡ change_element n g content
change_alike n f g (last t) child_element there h = refl
change_alike zero f g (more t m ds ats k rest) child_element there h = ap (λ (x : Tree). more_of t x rest) (subst (λ (x : Tree). f x ≡ g x) (sym (same_Some (tree_of m ds ats k) child_element there)) h)
change_alike (suc n) f g (more t m ds ats k rest) child_element there h = ap (more t m ds ats k) (change_alike n f g rest child_element there h)
change_alike n f g (comment_node t x rest) child_element there h = ap (comment_node t x) (change_alike n f g rest child_element there h)

change_none : (n : ℕ) (content : Content) → change_element n (λ (x : Tree). x) content ≡ content
change_none n (last t) = refl
change_none zero (more t m ds ats k rest) = refl
change_none (suc n) (more t m ds ats k rest) = ap (more t m ds ats k) (change_none n rest)
change_none n (comment_node t x rest) = ap (comment_node t x) (change_none n rest)

pub put_again : (p : List ℕ) (e t : Tree) → at p t ≡ Some e → put_over p e t ≡ t
put_again [] e t h = sym (same_Some t e h)
put_again (n ∷ p) e t h =
    let k = through_kid n p t e h in
    ap (λ (x : Content). tree_of t.name t.decls t.attrs x) (change_alike n (put_over p e) (λ (x : Tree). x) t.content k.0 k.1.0 (put_again p e k.0 k.1.1) ∙ change_none n t.content)

pub as_exchange : (p : List ℕ) (f : Tree → Tree) (e t : Tree) → at p t ≡ Some e → change_at p f t ≡ put_over p (f e) t
as_exchange [] f e t h = ap f (same_Some t e h)
as_exchange (n ∷ p) f e t h =
    let k = through_kid n p t e h in
    ap (λ (x : Content). tree_of t.name t.decls t.attrs x) (change_alike n (change_at p f) (put_over p (f e)) t.content k.0 k.1.0 (as_exchange p f e k.0 k.1.1))

-- ---- the scope at a child

pub scope_at_kid : (q : List ℕ) (i : ℕ) (t parent child_element : Tree) → at q t ≡ Some parent → slice_get (child_elements_of parent) i ≡ Some child_element → scope_at (q ++ i ∷ []) t ≡ scope_at q t ++ child_element.decls ∷ []
scope_at_kid [] i t parent child_element there is =
    let at_t : slice_get (child_elements_of t) i ≡ Some child_element = ap (λ (x : Tree). slice_get (child_elements_of x) i) (same_Some t parent there) ∙ is in
    ap (λ (o : Option Tree). t.decls ∷ unwrap_or (option_map (scope_at []) o) []) at_t
scope_at_kid (n ∷ q) i t parent child_element there is =
    let k = through_kid n q t parent there in
    ap (λ (o : Option Tree). t.decls ∷ unwrap_or (option_map (scope_at (q ++ i ∷ [])) o) []) k.1.0
    ∙ ap (λ (c : List (List Decl)). t.decls ∷ c) (scope_at_kid q i k.0 parent child_element k.1.1 is)
    ∙ sym (ap (λ (o : Option Tree). t.decls ∷ (unwrap_or (option_map (scope_at q) o) [] ++ child_element.decls ∷ [])) k.1.0)
