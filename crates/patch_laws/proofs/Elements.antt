-- The operations of changes of elements make what the changes make.
use Rattle.std.proofs.Common.{◌≡◌, ◌≢◌, ℕ, zero, suc, ◌<◌, ◌≤◌, Bool, true, false, List, [], ◌∷◌, ◌++◌, length, Option, Some, None, IsSome, is_some, IsSomeAnd, option_and_then, slice_get, Ok, refl, sym, ap, ◌∙◌, subst, arith}
use Rattle.std.specs.Prelude.{unwrap_or}
use Rattle.edit_ops.specs.DiffOperations.{change_operation as told}
use Rattle.xml_tree.specs.Tree.{Tree, at, height, child_elements_of}
use Rattle.xml_tree.specs.Edits.{parent_path}
use Rattle.xml_tree.specs.Proper.{IsProperTree}
use Rattle.xml_names.specs.Scopes.{in_scope_bindings, bound_uri}
use Rattle.xml_tree.specs.TreeScopes.{scope_around, scope_at}
use Rattle.xml_names.specs.declared.names.Decl.{Decl}
use Rattle.xml_tree.proofs.PathLemmas.{at-snoc}
use Rattle.edit_ops.specs.Changes.{FitsTree, edited}
use Rattle.edit_ops.specs.declared.change.Change.TheVariants.{Insert, Replace, Remove}
use Rattle.edit_ops.specs.inner.LocalChanges.{FitsLocally}
use Rattle.edit_ops.proofs.SiteLemmas.{fits_there}
use Rattle.xml_tree.specs.PathTexts.{path_text}
use Rattle.node_select.specs.declared.selector.PatchEnd.TheVariants.{Element}
use Rattle.node_select.specs.declared.selector.Step.{Step}
use Rattle.patch_rules.specs.PatchOperations as words
use Rattle.patch_rules.specs.PatchOperations.{AtElement}
use Rattle.patch_rules.specs.readers.AppliedOperations.{apply_operation}
use Rattle.patch_laws.specs.Premises.{AreReadablePositions, scope_around_operations}
use Rattle.patch_laws.proofs.PathSelection.{locates_element, path_form, path_means, path_read, steps}
use Rattle.patch_laws.proofs.Prefixes.{Meets-told, alone_alike}
use Rattle.patch_laws.proofs.PassedOperations.{applied_by, around-snoc, cut_element-is, made_is, is_not_beside_root-snoc, put_after, put_first}

pub some_and : (o : Option Tree) (P : Tree → Type 0) → IsSomeAnd o P → (e : Tree) × (o ≡ Some e) × P e
some_and None P h = absurd h
some_and (Some e) P h = (e, refl, h)

there_with : {A : Type 0} (xs : List A) (j : ℕ) → suc j ≤ length xs → IsSome (slice_get xs j)
there_with [] j h = absurd (omega arith)
there_with (x ∷ xs) zero h = refl
there_with (x ∷ xs) (suc j) h = there_with xs j (omega arith)

pub there_before_gap : (q : List ℕ) (j : ℕ) (k t : Tree) → at q t ≡ Some k → suc j ≤ length (child_elements_of k) → IsSome (at (q ++ j ∷ []) t)
there_before_gap q j k t there h =
    subst (λ (o : Option Tree). IsSome o) (sym (at-snoc q j t ∙ ap (option_and_then (λ (e : Tree). slice_get (child_elements_of e) j)) there)) (there_with (child_elements_of k) j h)

below_root : (p : List ℕ) → 0 < length p → words.is_below_root p ≡ true
below_root [] h = absurd (omega arith)
below_root (n ∷ p) h = refl

module _ (d uri : List ℕ) (ne : d ≢ []) (t : Tree) where
  -- the scope at an operation of a change in this scope
  abbrev pub own : List (List Decl) → List (List Decl)
  own place = scope_around_operations d uri ++ in_scope_bindings place ∷ []

  abbrev pub own_steps : List (List Decl) → List ℕ → List Step
  own_steps place p = steps (in_scope_bindings (own place)) (unwrap_or (bound_uri (own place) []) []) p

  pub inserted_first : (q : List ℕ) (e : Tree) (fresh : Bool) → FitsTree t (Insert q 0 e) → AreReadablePositions q → IsProperTree (scope_at q t) e → height (edited t (Insert q 0 e)) ≤ 64
      → apply_operation (scope_around_operations d uri) (told d (in_scope_bindings (scope_at q t)) fresh (Insert q 0 e)) t ≡ Ok (edited t (Insert q 0 e))
  inserted_first q e fresh fits small proper low =
      let k = some_and (at q t) (λ x. 0 ≤ length (child_elements_of x)) fits in
      let place = scope_at q t in
      applied_by (scope_around_operations d uri) (told d (in_scope_bindings place) fresh (Insert q 0 e)) t (path_text q) (words.Put words.Prepend) (path_form q)
      (record { steps = own_steps place q; end = Element }) (AtElement q) refl refl refl (path_read q small) refl (path_means (own place) q) refl
      (locates_element (in_scope_bindings (own place)) (unwrap_or (bound_uri (own place) []) []) q t (ap is_some k.1))
      ∙ made_is _ _ (edited t (Insert q 0 e)) (put_first q e k.0 t k.1) low (alone_alike (own place) place e (Meets-told place d uri ne) proper)

  pub inserted_after : (q : List ℕ) (j : ℕ) (e : Tree) (fresh : Bool) → FitsTree t (Insert q (suc j) e) → AreReadablePositions (q ++ j ∷ []) → IsProperTree (scope_at q t) e
      → height (edited t (Insert q (suc j) e)) ≤ 64
      → apply_operation (scope_around_operations d uri) (told d (in_scope_bindings (scope_at q t)) fresh (Insert q (suc j) e)) t ≡ Ok (edited t (Insert q (suc j) e))
  inserted_after q j e fresh fits small proper low =
      let k = some_and (at q t) (λ x. suc j ≤ length (child_elements_of x)) fits in
      let place = scope_at q t in
      applied_by (scope_around_operations d uri) (told d (in_scope_bindings place) fresh (Insert q (suc j) e)) t (path_text (q ++ j ∷ [])) (words.Put words.After) (path_form (q ++ j ∷ []))
      (record { steps = own_steps place (q ++ j ∷ []); end = Element }) (AtElement (q ++ j ∷ [])) refl refl refl (path_read (q ++ j ∷ []) small) refl
      (path_means (own place) (q ++ j ∷ [])) refl (locates_element (in_scope_bindings (own place)) (unwrap_or (bound_uri (own place) []) []) (q ++ j ∷ []) t (there_before_gap q j k.0 t k.1 k.2))
      ∙ rw (is_not_beside_root-snoc q j)
      (made_is _ _ (edited t (Insert q (suc j) e)) (put_after q j e k.0 t k.1 k.2) low
      (rw (around-snoc q j t) (alone_alike (own place) place e (Meets-told place d uri ne) proper)))

  pub replaced : (p : List ℕ) (e : Tree) (fresh : Bool) → FitsTree t (Replace p e) → AreReadablePositions p → IsProperTree (scope_around p t) e → height (edited t (Replace p e)) ≤ 64
      → apply_operation (scope_around_operations d uri) (told d (in_scope_bindings (scope_around p t)) fresh (Replace p e)) t ≡ Ok (edited t (Replace p e))
  replaced p e fresh fits small proper low =
      let place = scope_around p t in
      applied_by (scope_around_operations d uri) (told d (in_scope_bindings place) fresh (Replace p e)) t (path_text p) words.Replace (path_form p)
      (record { steps = own_steps place p; end = Element }) (AtElement p) refl refl refl (path_read p small) refl (path_means (own place) p) refl (locates_element (in_scope_bindings (own place)) (unwrap_or (bound_uri (own place) []) []) p t fits)
      ∙ made_is _ _ (edited t (Replace p e)) refl low (alone_alike (own place) place e (Meets-told place d uri ne) proper)

  pub removed : (p : List ℕ) (fresh : Bool) → FitsTree t (Remove p) → AreReadablePositions p → height (edited t (Remove p)) ≤ 64
      → apply_operation (scope_around_operations d uri) (told d (in_scope_bindings (scope_around p t)) fresh (Remove p)) t ≡ Ok (edited t (Remove p))
  removed p fresh fits small low =
      let place = scope_around p t in
      let k = some_and (at (parent_path p) t) (FitsLocally (Remove p)) (fits_there t (Remove p) fits) in
      applied_by (scope_around_operations d uri) (told d (in_scope_bindings place) fresh (Remove p)) t (path_text p) (words.Remove false false) (path_form p)
      (record { steps = own_steps place p; end = Element }) (AtElement p) refl refl refl (path_read p small) refl (path_means (own place) p) refl (locates_element (in_scope_bindings (own place)) (unwrap_or (bound_uri (own place) []) []) p t fits.1)
      ∙ rw (below_root p fits.0) (made_is _ _ (edited t (Remove p)) (cut_element-is p k.0 t k.1 k.2.1) low refl)
