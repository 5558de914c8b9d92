-- No operation makes a tree deeper than a document may be.
use Rattle.std.proofs.Common.{◌≡◌, ◌≤◌, ℕ, suc, Bool, true, false, codes, not, List, [], ◌∷◌, ◌++◌, Option, None, Some, is_some, option_and_then, option_map, unwrap_or, Result, Ok, refl, subst}
use Rattle.std.specs.List.{list_all, list_any, slice_get}
use Rattle.xml_names.specs.Attributes.{remove_first}
use Rattle.xml_tree.specs.Edits.{change_at, put_over}
use Rattle.xml_names.specs.ExpandedNames.{attr_name, same_expanded}
use Rattle.xml_tree.specs.Nodes.{exchange_nodes, nodes_of, text_node}
use Rattle.xml_tree.specs.TreeScopes.{scope_around, scope_at}
use Rattle.xml_tree.specs.Tree.{Content, Tree, at, height}
use Rattle.xml_names.specs.declared.names.Decl.{Decl}
use Rattle.xml_names.specs.declared.names.Name.{Name}
use Rattle.node_select.specs.declared.selector.PatchSelector.{PatchSelector}
use Rattle.patch_rules.specs.PatchOperations.{Directive, NoSpace, Prefix, RootTouched, Unlocated, OperationError, WrongNodes, PatchAction, Put, NewAttr, Replace, Remove, Location, AtElement, AtAttr, AtText, attr_of, cut_element, cut_nodes, apply_action, require_some, has_only_comments, is_below_root, is_type_prefix_bound, is_known_attribute, locate, check_tree, names_agree, is_not_beside_root, location_path, plain_value, put_nodes_at, set_first_value, scope_of_put, sole_element, has_requested_space, accepts_form, action_by_name, require, content_value, with_attrs, is_within_depth, parse_operation_name}
use Rattle.patch_rules.specs.Selectors.{Reading}
use Rattle.patch_rules.specs.readers.AppliedOperations.{apply_operation, selector_reading}
use Rattle.patch_apply.proofs.Depths.{low_made}

abbrev Low : Tree → Type 0
Low t = is_within_depth t ≡ true

-- ---- tests keep the result of what comes after them

behind_test : (b : Bool) (w : OperationError) (r : Result Tree OperationError) (x : Tree) → require b w r ≡ Ok x → r ≡ Ok x
behind_test true w r x e = e
behind_test false w r x e = absurd (cc)

behind_given : {A : Type 0} (o : Option A) (w : OperationError) (k : A → Result Tree OperationError) (x : Tree) → ((y : A) → k y ≡ Ok x → Low x) → require_some o w k ≡ Ok x → Low x
behind_given None w k x h e = absurd (cc)
behind_given (Some y) w k x h e = h y e

low_if : (new : Tree) (fits alike : Bool) (x : Tree) → is_within_depth new ≡ fits → require fits WrongNodes (require alike Prefix (Ok new)) ≡ Ok x → Low x
low_if new false alike x is e = absurd (cc)
low_if new true false x is e = absurd (cc)
low_if new true true x is e = let same : new ≡ x = cc in subst Low same is

made_low : (new : Tree) (alike : Bool) (x : Tree) → check_tree new alike ≡ Ok x → Low x
made_low new alike x e = low_if new (is_within_depth new) alike x refl e

-- ---- each patch action

module _ (c : List (List Decl)) (content : Content) (t x : Tree) where
  abbrev attr_made : Name → List ℕ → List ℕ → Result Tree OperationError
  attr_made name p v = check_tree (change_at p (with_attrs (λ ats. ats ++ attr_of name v ∷ [])) t) (same_expanded (attr_name c name) (attr_name (scope_at p t) name))

  abbrev is_new : Name → List ℕ → Bool
  is_new name p = not (list_any (λ a. same_expanded (attr_name (scope_at p t) a.name) (attr_name c name)) (unwrap_or (option_map (λ e. e.attrs) (at p t)) []))

  done_low : (task : PatchAction) (location : Location) → apply_action c task location content t ≡ Ok x → Low x
  done_low (Put position) location e =
      let p = location_path location in
      let some = is_some (slice_get (nodes_of content) 0) in
      let new = put_nodes_at position p (nodes_of content) t in
      let alike = names_agree c (scope_of_put position p t) content in
      made_low new alike x (behind_test some WrongNodes (check_tree new alike) x (behind_test (is_not_beside_root position p) RootTouched (require some WrongNodes (check_tree new alike)) x e))
  done_low (NewAttr name) location e =
      let p = location_path location in
      behind_given (content_value content) WrongNodes (λ v. require (is_new name p) WrongNodes (attr_made name p v)) x
      (λ v h. made_low (change_at p (with_attrs (λ ats. ats ++ attr_of name v ∷ [])) t) (same_expanded (attr_name c name) (attr_name (scope_at p t) name)) x (behind_test (is_new name p) WrongNodes (attr_made name p v) x h))
      e
  done_low Replace (AtElement p) e =
      let alike = names_agree c (scope_around p t) content in
      behind_given (sole_element content) WrongNodes (λ w. check_tree (put_over p w t) alike) x (λ w h. made_low (put_over p w t) alike x h) e
  done_low Replace (AtAttr p f) e =
      behind_given (content_value content) WrongNodes (λ v. check_tree (change_at p (with_attrs (set_first_value f v)) t) true) x (λ v h. made_low (change_at p (with_attrs (set_first_value f v)) t) true x h) e
  done_low Replace (AtText p i) e =
      behind_given (content_value content) WrongNodes (λ v. check_tree (change_at p (exchange_nodes i (suc i) (text_node v)) t) true) x
      (λ v h. made_low (change_at p (exchange_nodes i (suc i) (text_node v)) t) true x h) e
  done_low (Remove before after) (AtElement p) e =
      let new = cut_element before after p t in
      let spaced = require (has_requested_space before after p t) NoSpace (check_tree new true) in
      made_low new true x (
      behind_test (has_requested_space before after p t) NoSpace (check_tree new true) x (behind_test (has_only_comments content) WrongNodes spaced x (behind_test (is_below_root p) RootTouched (require (has_only_comments content) WrongNodes spaced) x e))
      )
  done_low (Remove before after) (AtAttr p f) e =
      let new = change_at p (with_attrs (remove_first f)) t in made_low new true x (behind_test (has_only_comments content) WrongNodes (check_tree new true) x e)
  done_low (Remove before after) (AtText p i) e =
      let new = cut_nodes p i (suc i) t in made_low new true x (behind_test (has_only_comments content) WrongNodes (check_tree new true) x e)

-- ---- a whole operation

module _ (sel : Option (List ℕ)) (known : Bool) (task : Option PatchAction) (read : List ℕ → Option Reading) (suit : PatchAction → Reading → Bool) (means : Reading → Option PatchSelector) (bnd : PatchAction → Bool)
    (loc : PatchSelector → Option Location) (fin : PatchAction → Location → Result Tree OperationError) (x : Tree) (last : (y : PatchAction) (location : Location) → fin y location ≡ Ok x → Low x) where
  abbrev from_selector : PatchAction → PatchSelector → Result Tree OperationError
  from_selector y s = require (bnd y) Prefix (require_some (loc s) Unlocated (fin y))

  abbrev from_form : PatchAction → Reading → Result Tree OperationError
  from_form y f = require (suit y f) Directive (require_some (means f) Prefix (from_selector y))

  abbrev from_task : List ℕ → PatchAction → Result Tree OperationError
  from_task v y = require_some (read v) Directive (from_form y)

  abbrev from_known : List ℕ → Result Tree OperationError
  from_known v = require_some task Directive (from_task v)

  selector_low : (y : PatchAction) (s : PatchSelector) → from_selector y s ≡ Ok x → Low x
  selector_low y s e = behind_given (loc s) Unlocated (fin y) x (last y) (behind_test (bnd y) Prefix (require_some (loc s) Unlocated (fin y)) x e)

  form_low : (y : PatchAction) (f : Reading) → from_form y f ≡ Ok x → Low x
  form_low y f e = behind_given (means f) Prefix (from_selector y) x (selector_low y) (behind_test (suit y f) Directive (require_some (means f) Prefix (from_selector y)) x e)

  known_low : (v : List ℕ) → from_known v ≡ Ok x → Low x
  known_low v e = behind_given task Directive (from_task v) x (λ y h. behind_given (read v) Directive (from_form y) x (form_low y) h) e

  chain_low : require_some sel Directive (λ v. require known Directive (from_known v)) ≡ Ok x → Low x
  chain_low e = behind_given sel Directive (λ v. require known Directive (from_known v)) x (λ v h. known_low v (behind_test known Directive (from_known v) x h)) e

pub applied_low : (c : List (List Decl)) (o t x : Tree) → apply_operation c o t ≡ Ok x → height x ≤ 64
applied_low c o t x e =
    let here = c ++ o.decls ∷ [] in
    let pos = plain_value (codes "pos") o.attrs in
    let type = plain_value (codes "type") o.attrs in
    let ws = plain_value (codes "ws") o.attrs in
    low_made x (
    chain_low (plain_value (codes "sel") o.attrs) (list_all is_known_attribute o.attrs) (option_and_then (λ w. action_by_name w pos type ws) (parse_operation_name o.name.local)) selector_reading (λ y f. accepts_form y f.ends) (λ f. f.means here)
    (is_type_prefix_bound here) (λ s. locate s t) (λ y location. apply_action here y location o.content t) x (λ y location h. done_low here o.content t x y location h) e
    )
