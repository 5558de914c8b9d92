-- What each patch action makes where its tests pass, by the depth of what it puts.
use Rattle.std.proofs.Common.{◌≡◌, ◌≤◌, ℕ, suc, ◌+◌, ◌-◌, Bool, true, false, List, [], ◌∷◌, ◌++◌, length, remove, Some, IsSome, Ok, Err, refl, ◌∙◌, if◌then◌else◌}
use Rattle.std.specs.Prelude.{nat_le}
use Rattle.xml_names.specs.Attributes.{with_value_at}
use Rattle.xml_tree.specs.Edits.{change_at, parent_path, put_over}
use Rattle.xml_names.specs.ExpandedNames.{attr_name, same_expanded}
use Rattle.xml_tree.specs.Nodes.{exchange_nodes, nodes_of, text_node}
use Rattle.xml_tree.specs.TreeScopes.{scope_around, scope_at}
use Rattle.xml_tree.specs.Tree.{Content, Tree, at, height}
use Rattle.xml_names.specs.declared.names.Attr.{Attr}
use Rattle.xml_names.specs.declared.names.Decl.{Decl}
use Rattle.xml_names.specs.declared.names.Name.{Name}
use Rattle.patch_rules.specs.PatchOperations.{Prefix, WrongNodes, AtElement, AtText, new_attr_result, attr_of, cut_element, has_only_comments, is_below_root, names_agree, index_in_parent, remove_result, replace_result, sole_element, has_requested_space, content_value, with_attrs, has_attr_named}
use Rattle.patch_apply.specs.inner.ContentNodes.{nodes_height}
use Rattle.patch_apply.specs.inner.ActionResults.{insert_result, drop_attr_result, set_attr_result}
use Rattle.patch_apply.proofs.Depths.{attrs_low, exchanged_low, put_over_low, shallow_low, text_height}
use Rattle.patch_apply.proofs.ActionResults.{attr_may, cut_well, made_deep, made_unlike, made_well, remove_well, replace_sole, take_well, text_some, value_some}

-- ---- attributes and texts of an element in the tree

module _ (p : List ℕ) (content : Content) (t : Tree) (there : IsSome (at p t)) (low : height t ≤ 64) where
  pub attr_unlike : (c : List (List Decl)) (name : Name) (v : List ℕ) → content_value content ≡ Some v → has_attr_named c name p t ≡ false
      → same_expanded (attr_name c name) (attr_name (scope_at p t) name) ≡ false → new_attr_result c name p content t ≡ Err Prefix
  attr_unlike c name v e new unlike =
      let add = λ (ats : List Attr). ats ++ attr_of name v ∷ [] in
      attr_may c name p content t v e new ∙ made_unlike (change_at p (with_attrs add) t) (same_expanded (attr_name c name) (attr_name (scope_at p t) name)) (attrs_low p add t there low) unlike

  pub attr_made : (c : List (List Decl)) (name : Name) (v : List ℕ) → content_value content ≡ Some v → has_attr_named c name p t ≡ false
      → same_expanded (attr_name c name) (attr_name (scope_at p t) name) ≡ true → new_attr_result c name p content t ≡ Ok (change_at p (with_attrs (λ ats. ats ++ attr_of name v ∷ [])) t)
  attr_made c name v e new like =
      let add = λ (ats : List Attr). ats ++ attr_of name v ∷ [] in
      attr_may c name p content t v e new ∙ made_well (change_at p (with_attrs add) t) (same_expanded (attr_name c name) (attr_name (scope_at p t) name)) (attrs_low p add t there low) like

  pub value_made : (i : ℕ) (v : List ℕ) → content_value content ≡ Some v → set_attr_result p i content t ≡ Ok (change_at p (with_attrs (with_value_at i v)) t)
  value_made i v e = value_some p i content t v e ∙ made_well (change_at p (with_attrs (with_value_at i v)) t) true (attrs_low p (with_value_at i v) t there low) refl

  pub take_made : (i : ℕ) → has_only_comments content ≡ true → drop_attr_result p i content t ≡ Ok (change_at p (with_attrs (λ ats. remove ats i)) t)
  take_made i e =
      let out = λ (ats : List Attr). remove ats i in
      take_well p i content t e ∙ made_well (change_at p (with_attrs out) t) true (attrs_low p out t there low) refl

  pub text_made : (c : List (List Decl)) (i : ℕ) (v : List ℕ) → content_value content ≡ Some v → replace_result c (AtText p i) content t ≡ Ok (change_at p (exchange_nodes i (suc i) (text_node v)) t)
  text_made c i v e =
      text_some c p i content t v e
      ∙ made_well (change_at p (exchange_nodes i (suc i) (text_node v)) t) true (shallow_low p i (suc i) (text_node v) t there low (text_height v)) refl

  pub cut_made : (before after : Bool) (i : ℕ) → has_only_comments content ≡ true → remove_result before after (AtText p i) content t ≡ Ok (change_at p (exchange_nodes i (suc i) []) t)
  cut_made before after i e =
      cut_well p i content t before after e ∙ made_well (change_at p (exchange_nodes i (suc i) []) t) true (shallow_low p i (suc i) [] t there low refl) refl

-- ---- content put among nodes

module _ (c : List (List Decl)) (p : List ℕ) (i : ℕ) (content : Content) (t : Tree) (there : IsSome (at p t)) (low : height t ≤ 64) where
  pub gap_deep : nat_le (length p + suc (nodes_height (nodes_of content))) 64 ≡ false → insert_result c p i content t ≡ Err WrongNodes
  gap_deep e = made_deep (change_at p (exchange_nodes i i (nodes_of content)) t) (names_agree c (scope_at p t) content) (exchanged_low p i i (nodes_of content) t there low ∙ e)

  pub gap_unlike : nat_le (length p + suc (nodes_height (nodes_of content))) 64 ≡ true → names_agree c (scope_at p t) content ≡ false → insert_result c p i content t ≡ Err Prefix
  gap_unlike e unlike = made_unlike (change_at p (exchange_nodes i i (nodes_of content)) t) (names_agree c (scope_at p t) content) (exchanged_low p i i (nodes_of content) t there low ∙ e) unlike

  pub gap_made : nat_le (length p + suc (nodes_height (nodes_of content))) 64 ≡ true → names_agree c (scope_at p t) content ≡ true
      → insert_result c p i content t ≡ Ok (change_at p (exchange_nodes i i (nodes_of content)) t)
  gap_made e like = made_well (change_at p (exchange_nodes i i (nodes_of content)) t) (names_agree c (scope_at p t) content) (exchanged_low p i i (nodes_of content) t there low ∙ e) like

-- ---- an element is replaced by another

module _ (c : List (List Decl)) (p : List ℕ) (w : Tree) (content : Content) (t : Tree) (there : IsSome (at p t)) (low : height t ≤ 64) (sole : sole_element content ≡ Some w) where
  pub element_deep : nat_le (length p + height w) 64 ≡ false → replace_result c (AtElement p) content t ≡ Err WrongNodes
  element_deep e = replace_sole c p content t w sole ∙ made_deep (put_over p w t) (names_agree c (scope_around p t) content) (put_over_low p w t there low ∙ e)

  pub element_unlike : nat_le (length p + height w) 64 ≡ true → names_agree c (scope_around p t) content ≡ false → replace_result c (AtElement p) content t ≡ Err Prefix
  element_unlike e unlike = replace_sole c p content t w sole ∙ made_unlike (put_over p w t) (names_agree c (scope_around p t) content) (put_over_low p w t there low ∙ e) unlike

  pub element_made : nat_le (length p + height w) 64 ≡ true → names_agree c (scope_around p t) content ≡ true → replace_result c (AtElement p) content t ≡ Ok (put_over p w t)
  element_made e like = replace_sole c p content t w sole ∙ made_well (put_over p w t) (names_agree c (scope_around p t) content) (put_over_low p w t there low ∙ e) like

-- ---- an element is removed

pub remove_made : (before after : Bool) (p : List ℕ) (content : Content) (t : Tree) → IsSome (at (parent_path p) t) → height t ≤ 64
    → is_below_root p ≡ true → has_only_comments content ≡ true → has_requested_space before after p t ≡ true → remove_result before after (AtElement p) content t ≡ Ok (cut_element before after p t)
remove_made before after p content t there low below bare fits =
    remove_well before after p content t below bare fits
    ∙ made_well (cut_element before after p t) true (shallow_low (parent_path p) (index_in_parent p t - (if before then 1 else 0)) (suc (index_in_parent p t) + (if after then 1 else 0)) [] t there low refl) refl
