-- The operations of changes of attributes make what the changes make.
use Rattle.std.proofs.Common.{◌≡◌, ◌≢◌, ℕ, ◌≤◌, Bool, true, false, List, [], ◌∷◌, ◌++◌, Option, Some, None, IsSome, is_some, option_map, Ok, refl, sym, ap, ◌∙◌}
use Rattle.std.specs.Prelude.{unwrap_or}
use Rattle.std.specs.List.{AllByRecursion, find, list_any}
use Rattle.xml_names.specs.Markup.{print_name}
use Rattle.xml_names.specs.Attributes.{remove_first, has_qname as is_named}
use Rattle.xml_tree.specs.Edits.{drop_attr, set_attr_value}
use Rattle.xml_names.specs.ExpandedNames.{attr_name, same_expanded}
use Rattle.xml_tree.specs.Proper.{IsProperName}
use Rattle.xml_names.specs.Scopes.{in_scope_bindings, bound_uri, xmlns_prefix}
use Rattle.xml_tree.specs.TreeScopes.{scope_at}
use Rattle.xml_tree.specs.Tree.{Tree, at, height}
use Rattle.xml_names.specs.declared.names.Name.{Name}
use Rattle.xml_names.specs.declared.names.Decl.{Decl}
use Rattle.xml_names.specs.declared.names.Attr.{Attr}
use Rattle.tree_text.proofs.PrintedNames.{IsWritten}
use Rattle.edit_ops.specs.Changes.{edited}
use Rattle.edit_ops.specs.declared.change.Change.TheVariants.{DropAttr, SetAttr}
use Rattle.node_select.specs.Names.{attr_uri}
use Rattle.node_select.specs.Selection.{is_attr_named}
use Rattle.xml_tree.specs.PathTexts.{path_text}
use Rattle.node_select.specs.declared.selector.PatchEnd.TheVariants.{Attribute, Element}
use Rattle.node_select.specs.declared.selector.Step.{Step}
use Rattle.patch_rules.specs.PatchOperations as words
use Rattle.patch_rules.specs.PatchOperations.{AtAttr, AtElement, attr_of, set_first_value, with_attrs}
use Rattle.patch_rules.specs.readers.AppliedOperations.{apply_operation}
use Rattle.edit_ops.specs.DiffOperations.{attr_path_text, change_operation as told}
use Rattle.patch_laws.specs.Premises.{AreReadablePositions, BindsAlike, scope_around_operations}
use Rattle.patch_laws.proofs.PathSelection.{attr_form, attr_means, attr_read, locates_attr, locates_element, path_form, path_means, path_read, steps}
use Rattle.patch_laws.proofs.Prefixes.{Meets-told, attr_alike, same_expanded-refl}
use Rattle.patch_laws.proofs.PassedOperations.{applied_by, change_at-agree, made_is}
use Rattle.patch_laws.proofs.Attributes.{Agree, Sole, agrees, any_agree, found_any, known_type, may_name, new_behind, none_passes, not_unbound, removed_agree, rewritten_agree, type_read, uri_is}

-- what is known of the name of an attribute that is written or removed, in the scope of its
-- element
pub record NameAt (c : List (List Decl)) (n : Name) (ats : List Attr) : Type 0 where
  pub named : IsProperName c n
  pub other : (n.prefix ≡ []) → n.local ≢ xmlns_prefix
  pub bound_prefix : n.prefix ≢ xmlns_prefix
  pub sole : Sole c n ats

pub as_written : (c : List (List Decl)) (n : Name) → IsProperName c n → IsWritten n
as_written c n h = record { prefix = h.prefix; local = h.local }

-- no attribute has the expanded name of a name that none is written with
none_same : (c : List (List Decl)) (n : Name) (ats : List Attr) → Sole c n ats → AllByRecursion (λ a. is_named n a ≡ false) ats → list_any (λ a. same_expanded (attr_name c a.name) (attr_name c n)) ats ≡ false
none_same c n [] s h = refl
none_same c n (a ∷ ats) s h = by (same_expanded (attr_name c a.name) (attr_name c n)) refl (none_same c n ats s.1 h.1)
  where
    by : (b : Bool) → same_expanded (attr_name c a.name) (attr_name c n) ≡ b → list_any (λ a. same_expanded (attr_name c a.name) (attr_name c n)) ats ≡ false
        → list_any (λ a. same_expanded (attr_name c a.name) (attr_name c n)) (a ∷ ats) ≡ false
    by true e rest = absurd (let z : true ≡ false = sym (s.0 e) ∙ h.0 in cc)
    by false e rest = rw e rest

module _ (d uri : List ℕ) (ne : d ≢ []) (t : Tree) (p : List ℕ) (n : Name) (k : Tree) (there : at p t ≡ Some k) (small : AreReadablePositions p) (name : NameAt (scope_at p t) n k.attrs) where
  abbrev place : List (List Decl)
  place = scope_at p t

  abbrev own : List (List Decl)
  own = scope_around_operations d uri ++ in_scope_bindings place ∷ []

  abbrev own_steps : List Step
  own_steps = steps (in_scope_bindings own) (unwrap_or (bound_uri own []) []) p

  abbrev own_uri : List ℕ
  own_uri = attr_uri (in_scope_bindings own) n

  meets : BindsAlike place own
  meets = Meets-told place d uri ne

  agree : Agree (is_attr_named place own_uri n.local) (is_named n) k.attrs
  agree = agrees place n own_uri k.attrs (uri_is place own n meets name.named name.bound_prefix) name.sole

  has : IsSome (find (is_named n) k.attrs) → list_any (is_attr_named place own_uri n.local) k.attrs ≡ true
  has some = any_agree (is_attr_named place own_uri n.local) (is_named n) k.attrs agree ∙ found_any (is_named n) k.attrs some

  -- a new attribute
  pub added : (v : List ℕ) → find (is_named n) k.attrs ≡ None → height (edited t (SetAttr p n v)) ≤ 64
      → apply_operation (scope_around_operations d uri) (told d (in_scope_bindings place) true (SetAttr p n v)) t ≡ Ok (edited t (SetAttr p n v))
  added v none low =
      let w = as_written place n name.named in
      let type : words.action_by_name words.Add None (Some (64 ∷ print_name n)) None ≡ Some (words.NewAttr n) = ap (λ o. option_map words.NewAttr o) (type_read n w name.other) in
      let same : attr_name own n ≡ attr_name place n = attr_alike own place n meets name.named in
      let gone : list_any (λ a. same_expanded (attr_name place a.name) (attr_name own n)) k.attrs ≡ false =
      ap (λ x. list_any (λ a. same_expanded (attr_name place a.name) x) k.attrs) same ∙ none_same place n k.attrs name.sole (none_passes (is_named n) k.attrs none) in
      let attrs : unwrap_or (option_map (λ (e : Tree). e.attrs) (at p t)) [] ≡ k.attrs = ap (λ (o : Option Tree). unwrap_or (option_map (λ (e : Tree). e.attrs) o) []) there in
      applied_by (scope_around_operations d uri) (told d (in_scope_bindings place) true (SetAttr p n v)) t (path_text p) (words.NewAttr n) (path_form p)
      (record { steps = own_steps; end = Element }) (AtElement p) refl refl type (path_read p small) refl (path_means own p) (known_type place own n meets name.named name.bound_prefix)
      (locates_element (in_scope_bindings own) (unwrap_or (bound_uri own []) []) p t (ap is_some there))
      ∙ rw attrs (rw gone (made_is _ _ (edited t (SetAttr p n v))
      (change_at-agree p (with_attrs (λ ats. ats ++ attr_of n v ∷ [])) (set_attr_value n v) k t there (ap (λ (l : List Attr). record k { attrs = l }) (new_behind n v k.attrs none)))
      low (same_expanded-refl (attr_name own n) (attr_name place n) same)))

  -- an attribute that is replaced
  pub exchanged : (v : List ℕ) → IsSome (find (is_named n) k.attrs) → height (edited t (SetAttr p n v)) ≤ 64
      → apply_operation (scope_around_operations d uri) (told d (in_scope_bindings place) false (SetAttr p n v)) t ≡ Ok (edited t (SetAttr p n v))
  exchanged v some low =
      let w = as_written place n name.named in
      let f = is_attr_named place own_uri n.local in
      applied_by (scope_around_operations d uri) (told d (in_scope_bindings place) false (SetAttr p n v)) t (attr_path_text p n) words.Replace (attr_form p n)
      (record { steps = own_steps; end = Attribute own_uri n.local }) (AtAttr p f) refl refl refl (attr_read p n small w (may_name n name.other)) refl
      (attr_means own p n (not_unbound place own n meets name.named name.bound_prefix)) refl
      (locates_attr (in_scope_bindings own) (unwrap_or (bound_uri own []) []) own_uri n.local p t k there (has some))
      ∙ made_is _ _ (edited t (SetAttr p n v))
      (change_at-agree p (with_attrs (set_first_value f v)) (set_attr_value n v) k t there (ap (λ (l : List Attr). record k { attrs = l }) (rewritten_agree f (is_named n) v (attr_of n v) k.attrs agree some)))
      low refl

  pub dropped : (fresh : Bool) → IsSome (find (is_named n) k.attrs) → height (edited t (DropAttr p n)) ≤ 64
      → apply_operation (scope_around_operations d uri) (told d (in_scope_bindings place) fresh (DropAttr p n)) t ≡ Ok (edited t (DropAttr p n))
  dropped fresh some low =
      let w = as_written place n name.named in
      let f = is_attr_named place own_uri n.local in
      applied_by (scope_around_operations d uri) (told d (in_scope_bindings place) fresh (DropAttr p n)) t (attr_path_text p n) (words.Remove false false) (attr_form p n)
      (record { steps = own_steps; end = Attribute own_uri n.local }) (AtAttr p f) refl refl refl (attr_read p n small w (may_name n name.other)) refl
      (attr_means own p n (not_unbound place own n meets name.named name.bound_prefix)) refl
      (locates_attr (in_scope_bindings own) (unwrap_or (bound_uri own []) []) own_uri n.local p t k there (has some))
      ∙ made_is _ _ (edited t (DropAttr p n))
      (change_at-agree p (with_attrs (remove_first f)) (drop_attr n) k t there (ap (λ (l : List Attr). record k { attrs = l }) (removed_agree f (is_named n) k.attrs agree)))
      low refl
