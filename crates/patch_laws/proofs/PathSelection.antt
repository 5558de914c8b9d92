-- The text of a path, read in any scope, selects the element at the path, and nothing else.
use Rattle.std.proofs.Common.{◌≡◌, ℕ, zero, suc, ◌<◌, true, false, List, [], ◌∷◌, map, length, take, Option, Some, None, IsSome, is_some, refl, ap, option_and_then, slice_get, count_by, length-take, arith}
use Rattle.std.specs.Prelude.{unwrap_or}
use Rattle.std.specs.List.{list_any}
use Rattle.std.proofs.lemmas.Option.{slice_get_within}
use Rattle.tree_text.proofs.PrintedNames.{IsWritten}
use Rattle.xml_tree.specs.PathTexts.{path_text}
use Rattle.xml_names.specs.Scopes.{in_scope_bindings, bound_uri}
use Rattle.xml_tree.specs.TreeScopes.{scope_at, inside}
use Rattle.xml_tree.specs.Tree.{Tree, at, child_elements_of}
use Rattle.xml_names.specs.declared.names.Name.{Name}
use Rattle.xml_names.specs.declared.names.Decl.{Decl}
use Rattle.node_select.specs.StepSelection.{Selects}
use Rattle.node_select.proofs.ListEdits.{count-cons}
use Rattle.node_select.specs.Grammar.{is_attribute_name}
use Rattle.node_select.specs.Names.{attr_uri, has_unbound_prefix}
use Rattle.node_select.specs.readers.RawSelectors.{PatchAttribute, PatchElement, resolved_steps, unbound_in_steps, unbound_patch_end}
use Rattle.node_select.specs.Selection.{is_attr_named, SelectsAmong, selected_element_path}
use Rattle.node_select.specs.declared.selector.PatchEnd.TheVariants.{Element, Attribute}
use Rattle.node_select.specs.declared.selector.Step.{Step}
use Rattle.node_select.proofs.ReachLemmas.{path_is}
use Rattle.patch_rules.specs.PatchOperations.{AtElement, AtAttr, locate}
use Rattle.patch_rules.specs.Selectors.{Reading}
use Rattle.patch_rules.specs.readers.AppliedOperations.{selector_reading, reading_of, reading_if_parsed}
use Rattle.edit_ops.specs.DiffOperations.{attr_path_text}
use Rattle.patch_laws.specs.Premises.{AreReadablePositions}
use Rattle.patch_laws.proofs.PathTexts.{attr_selector, next_step, path_selector, raw_steps}

-- ---- its meaning in a scope

none_unbound : (bindings : List Decl) (p : List ℕ) (n : ℕ) (end : ℕ → Option ℕ) → ((k : ℕ) → end k ≡ None) → unbound_in_steps bindings n (map next_step p) end ≡ None
none_unbound bindings [] n end h = h n
none_unbound bindings (m ∷ p) n end h = none_unbound bindings p _ end h

-- the steps of a path, which don't depend on a scope
abbrev pub steps : List Decl → List ℕ → List ℕ → List Step
steps bindings default p = resolved_steps bindings default (raw_steps p)

-- the reading of the text of a path, alone and with an attribute after it
abbrev pub path_form : List ℕ → Reading
path_form p = reading_of (0, (raw_steps p, PatchElement))

abbrev pub attr_form : List ℕ → Name → Reading
attr_form p n = reading_of (0, (raw_steps p, PatchAttribute n))

pub path_read : (p : List ℕ) → AreReadablePositions p → selector_reading (path_text p) ≡ Some (path_form p)
path_read p h = ap reading_if_parsed (path_selector p h)

pub attr_read : (p : List ℕ) (n : Name) → AreReadablePositions p → IsWritten n → is_attribute_name n ≡ true → selector_reading (attr_path_text p n) ≡ Some (attr_form p n)
attr_read p n h w a = ap reading_if_parsed (attr_selector p n h w a)

pub path_means : (c : List (List Decl)) (p : List ℕ) → (path_form p).means c ≡ Some (record { steps = steps (in_scope_bindings c) (unwrap_or (bound_uri c []) []) p; end = Element })
path_means c p =
    let none : unbound_in_steps (in_scope_bindings c) 0 (raw_steps p) (unbound_patch_end (in_scope_bindings c) PatchElement) ≡ None = none_unbound (in_scope_bindings c) p _ _ (λ k. refl) in
    rw none refl

no_unbound : (bindings : List Decl) (n : Name) → has_unbound_prefix bindings n ≡ false → (k : ℕ) → unbound_patch_end bindings (PatchAttribute n) k ≡ None
no_unbound bindings n h k = rw h refl

pub attr_means : (c : List (List Decl)) (p : List ℕ) (n : Name) → has_unbound_prefix (in_scope_bindings c) n ≡ false
    → (attr_form p n).means c ≡ Some (record { steps = steps (in_scope_bindings c) (unwrap_or (bound_uri c []) []) p; end = Attribute (attr_uri (in_scope_bindings c) n) n.local })
attr_means c p n b =
    let none : unbound_in_steps (in_scope_bindings c) 0 (raw_steps p) (unbound_patch_end (in_scope_bindings c) (PatchAttribute n)) ≡ None = none_unbound (in_scope_bindings c) p _ _ (no_unbound (in_scope_bindings c) n b) in
    rw none refl

-- ---- what it selects

count_all : {A : Type 0} (xs : List A) → count_by (λ _. true) xs ≡ length xs
count_all [] = refl
count_all (x ∷ xs) = omega (arith, count-cons (λ _. true) x xs, count_all xs)

counted : {A : Type 0} (xs : List A) (k : ℕ) → k < length xs → count_by (λ _. true) (take k xs) ≡ k
counted xs k h = omega (arith, count_all (take k xs), length-take k xs)

selects_nth : {A : Type 0} (xs : List A) (n : ℕ) (x : A) → slice_get xs n ≡ Some x → Selects (record { named = λ _. true; position = Some (suc n); tested = λ _. true }) xs n
selects_nth xs n x there = record {
  this = record { child_element = x; there = there; is_named = refl; at_position = omega (arith, counted xs n (slice_get_within xs n x there)); is_tested = refl };
  alone = λ k m. omega (arith, m.at_position, counted xs k (slice_get_within xs k m.child_element m.there));
}

some_kid : {A : Type 0} (o : Option Tree) (f : Tree → Option A) → IsSome (option_and_then f o) → (child_element : Tree) × (o ≡ Some child_element) × IsSome (f child_element)
some_kid None f h = cc
some_kid (Some child_element) f h = (child_element, refl, h)

selects_below : (bindings : List Decl) (default : List ℕ) (c : List (List Decl)) (p : List ℕ) (e : Tree) → IsSome (at p e) → SelectsAmong c (child_elements_of e) (resolved_steps bindings default (map next_step p)) p
selects_below bindings default c [] e h = tt
selects_below bindings default c (n ∷ p) e h =
    let k = some_kid (slice_get (child_elements_of e) n) (at p) h in
    (selects_nth (child_elements_of e) n k.0 k.1, (k.0, k.1, selects_below bindings default (inside c k.0) p k.0 k.2))

only_zero : {A : Type 0} (x y : A) (k : ℕ) → slice_get (x ∷ []) k ≡ Some y → k ≡ 0
only_zero x y zero h = refl
only_zero x y (suc k) h = cc

selects_root : {A : Type 0} (x : A) → Selects (record { named = λ _. true; position = None; tested = λ _. true }) (x ∷ []) 0
selects_root x = record { this = record { child_element = x; there = refl; is_named = refl; at_position = tt; is_tested = refl }; alone = λ k m. only_zero x m.child_element k m.there }

pub selects_path : (bindings : List Decl) (default : List ℕ) (p : List ℕ) (t : Tree) → IsSome (at p t) → selected_element_path (steps bindings default p) t ≡ Some p
selects_path bindings default p t h =
    (path_is (steps bindings default p) t p).1 (selects_root t, (t, refl, selects_below bindings default (inside [] t) p t h))

there_at : (o : Option Tree) → IsSome o → (e : Tree) × (o ≡ Some e)
there_at None h = cc
there_at (Some e) h = (e, refl)

pub locates_element : (bindings : List Decl) (default : List ℕ) (p : List ℕ) (t : Tree) → IsSome (at p t)
    → locate (record { steps = steps bindings default p; end = Element }) t ≡ Some (AtElement p)
locates_element bindings default p t h = let e = there_at (at p t) h in rw (selects_path bindings default p t h) (rw e.1 refl)

pub locates_attr : (bindings : List Decl) (default uri local : List ℕ) (p : List ℕ) (t e : Tree) → at p t ≡ Some e → list_any (is_attr_named (scope_at p t) uri local) e.attrs ≡ true
    → locate (record { steps = steps bindings default p; end = Attribute uri local }) t ≡ Some (AtAttr p (is_attr_named (scope_at p t) uri local))
locates_attr bindings default uri local p t e there has =
    rw (selects_path bindings default p t (ap is_some there)) (rw there (rw has refl))
