-- What each patch action makes, test by test.
use Rattle.std.proofs.Common.{◌≡◌, ℕ, suc, ◌+◌, ◌<◌, Bool, true, false, cond, not, List, [], ◌∷◌, ◌++◌, length, remove, Option, None, Some, is_some, IsSomeAnd, Result, Ok, Err, refl, sym, ap, ◌∙◌, arith}
use Rattle.std.proofs.lemmas.Bool.{ltb-true}
use Rattle.std.proofs.lemmas.Option.{cond_some}
use Rattle.std.specs.List.{position, position_or_len, slice_get}
use Rattle.std.specs.Prelude.{nat_lt}
use Rattle.xml_names.specs.Attributes.{remove_first, with_new_value, with_value_at}
use Rattle.xml_tree.specs.Edits.{change_at, put_over}
use Rattle.xml_names.specs.ExpandedNames.{attr_name, same_expanded}
use Rattle.xml_tree.specs.Nodes.{exchange_nodes, nodes_of, text_node}
use Rattle.xml_tree.specs.TreeScopes.{scope_around, scope_at}
use Rattle.xml_tree.specs.Tree.{Content, Tree, at}
use Rattle.xml_names.specs.declared.names.Attr.{Attr}
use Rattle.xml_names.specs.declared.names.Decl.{Decl}
use Rattle.xml_names.specs.declared.names.Name.{Name}
use Rattle.xml_tree.specs.declared.tree.Node.{Node}
use Rattle.xml_tree.proofs.PathLemmas.{put_over-made}
use Rattle.patch_rules.specs.PatchOperations.{OperationError, Prefix, RootTouched, WrongNodes, NoSpace, Position, Append, Prepend, Before, After, AtElement, AtAttr, AtText, new_attr_result, attr_of, cut_element, require_some, has_only_comments, is_below_root, check_tree, names_agree, is_not_beside_root, put_nodes_at, put_result, remove_result, replace_result, set_first_value, scope_of_put, sole_element, has_requested_space, require, content_value, with_attrs, is_within_depth, has_attr_named}
use Rattle.patch_apply.specs.inner.ActionResults.{insert_result, insertion_place, insertion_path, drop_attr_result, set_attr_result}

-- ---- the new tree

module _ (new : Tree) (alike : Bool) where
  pub made_deep : is_within_depth new ≡ false → check_tree new alike ≡ Err WrongNodes
  made_deep e = ap (λ b. require b WrongNodes (require alike Prefix (Ok new))) e

  pub made_unlike : is_within_depth new ≡ true → alike ≡ false → check_tree new alike ≡ Err Prefix
  made_unlike e unlike = ap (λ b. require b WrongNodes (require alike Prefix (Ok new))) e ∙ ap (λ b. require b Prefix (Ok new)) unlike

  pub made_well : is_within_depth new ≡ true → alike ≡ true → check_tree new alike ≡ Ok new
  made_well e same = ap (λ b. require b WrongNodes (require alike Prefix (Ok new))) e ∙ ap (λ b. require b Prefix (Ok new)) same

-- ---- an attribute is added

module _ (c : List (List Decl)) (name : Name) (p : List ℕ) (content : Content) (t : Tree) where
  abbrev attr_new : List ℕ → Tree
  attr_new v = change_at p (with_attrs (λ ats. ats ++ attr_of name v ∷ [])) t

  abbrev attr_like : Bool
  attr_like = same_expanded (attr_name c name) (attr_name (scope_at p t) name)

  abbrev attr_rest : List ℕ → Result Tree OperationError
  attr_rest v = require (not (has_attr_named c name p t)) WrongNodes (check_tree (attr_new v) attr_like)

  pub attr_no_value : content_value content ≡ None → new_attr_result c name p content t ≡ Err WrongNodes
  attr_no_value e = ap (λ (o : Option (List ℕ)). require_some o WrongNodes attr_rest) e

  pub attr_twice : (v : List ℕ) → content_value content ≡ Some v → has_attr_named c name p t ≡ true → new_attr_result c name p content t ≡ Err WrongNodes
  attr_twice v e there = ap (λ (o : Option (List ℕ)). require_some o WrongNodes attr_rest) e ∙ ap (λ b. require (not b) WrongNodes (check_tree (attr_new v) attr_like)) there

  pub attr_may : (v : List ℕ) → content_value content ≡ Some v → has_attr_named c name p t ≡ false
      → new_attr_result c name p content t ≡ check_tree (change_at p (with_attrs (λ ats. ats ++ attr_of name v ∷ [])) t) (same_expanded (attr_name c name) (attr_name (scope_at p t) name))
  attr_may v e new = ap (λ (o : Option (List ℕ)). require_some o WrongNodes attr_rest) e ∙ ap (λ b. require (not b) WrongNodes (check_tree (attr_new v) attr_like)) new

-- ---- content is put among nodes

pub put_site : (position : Position) (p : List ℕ) (ns : List Node) (t : Tree) → put_nodes_at position p ns t ≡ change_at (insertion_path position p) (exchange_nodes (insertion_place position p t) (insertion_place position p t) ns) t
put_site Append p ns t = refl
put_site Prepend p ns t = refl
put_site Before p ns t = refl
put_site After p ns t = refl

pub put_scope : (position : Position) (p : List ℕ) (t : Tree) → is_not_beside_root position p ≡ true → scope_of_put position p t ≡ scope_at (insertion_path position p) t
put_scope Append p t off = refl
put_scope Prepend p t off = refl
put_scope Before [] t off = absurd (cc)
put_scope Before (n ∷ p) t off = refl
put_scope After [] t off = absurd (cc)
put_scope After (n ∷ p) t off = refl

module _ (c : List (List Decl)) (position : Position) (p : List ℕ) (content : Content) (t : Tree) where
  abbrev put_rest : Result Tree OperationError
  put_rest = check_tree (put_nodes_at position p (nodes_of content) t) (names_agree c (scope_of_put position p t) content)

  abbrev put_test : Bool → Bool → Result Tree OperationError
  put_test off some = require off RootTouched (require some WrongNodes put_rest)

  pub put_beside_root : is_not_beside_root position p ≡ false → put_result c position p content t ≡ Err RootTouched
  put_beside_root e = ap (λ b. put_test b (is_some (slice_get (nodes_of content) 0))) e

  pub put_nothing : is_not_beside_root position p ≡ true → is_some (slice_get (nodes_of content) 0) ≡ false → put_result c position p content t ≡ Err WrongNodes
  put_nothing e none = ap (λ b. put_test b (is_some (slice_get (nodes_of content) 0))) e ∙ ap (put_test true) none

  pub put_somewhere : is_not_beside_root position p ≡ true → is_some (slice_get (nodes_of content) 0) ≡ true → put_result c position p content t ≡ insert_result c (insertion_path position p) (insertion_place position p t) content t
  put_somewhere e some =
      ap (λ b. put_test b (is_some (slice_get (nodes_of content) 0))) e ∙ ap (put_test true) some
      ∙ (λ i. check_tree (put_site position p (nodes_of content) t i) (names_agree c (put_scope position p t e i) content))

-- ---- an element is replaced

module _ (c : List (List Decl)) (p : List ℕ) (content : Content) (t : Tree) where
  abbrev element_rest : Tree → Result Tree OperationError
  element_rest w = check_tree (put_over p w t) (names_agree c (scope_around p t) content)

  pub replace_none : sole_element content ≡ None → replace_result c (AtElement p) content t ≡ Err WrongNodes
  replace_none e = ap (λ (o : Option Tree). require_some o WrongNodes element_rest) e

  pub replace_sole : (w : Tree) → sole_element content ≡ Some w → replace_result c (AtElement p) content t ≡ check_tree (put_over p w t) (names_agree c (scope_around p t) content)
  replace_sole w e = ap (λ (o : Option Tree). require_some o WrongNodes element_rest) e

-- ---- a value or a text is replaced

module _ (p : List ℕ) (i : ℕ) (content : Content) (t : Tree) where
  pub value_none : content_value content ≡ None → set_attr_result p i content t ≡ Err WrongNodes
  value_none e = ap (λ (o : Option (List ℕ)). require_some o WrongNodes (λ v. check_tree (change_at p (with_attrs (with_value_at i v)) t) true)) e

  pub value_some : (v : List ℕ) → content_value content ≡ Some v → set_attr_result p i content t ≡ check_tree (change_at p (with_attrs (with_value_at i v)) t) true
  value_some v e = ap (λ (o : Option (List ℕ)). require_some o WrongNodes (λ x. check_tree (change_at p (with_attrs (with_value_at i x)) t) true)) e

module _ (c : List (List Decl)) (p : List ℕ) (i : ℕ) (content : Content) (t : Tree) where
  pub text_none : content_value content ≡ None → replace_result c (AtText p i) content t ≡ Err WrongNodes
  text_none e = ap (λ (o : Option (List ℕ)). require_some o WrongNodes (λ v. check_tree (change_at p (exchange_nodes i (suc i) (text_node v)) t) true)) e

  pub text_some : (v : List ℕ) → content_value content ≡ Some v → replace_result c (AtText p i) content t ≡ check_tree (change_at p (exchange_nodes i (suc i) (text_node v)) t) true
  text_some v e = ap (λ (o : Option (List ℕ)). require_some o WrongNodes (λ x. check_tree (change_at p (exchange_nodes i (suc i) (text_node x)) t) true)) e

-- ---- something is removed

module _ (p : List ℕ) (i : ℕ) (content : Content) (t : Tree) where
  pub take_not : has_only_comments content ≡ false → drop_attr_result p i content t ≡ Err WrongNodes
  take_not e = ap (λ b. require b WrongNodes (check_tree (change_at p (with_attrs (λ ats. remove ats i)) t) true)) e

  pub take_well : has_only_comments content ≡ true → drop_attr_result p i content t ≡ check_tree (change_at p (with_attrs (λ ats. remove ats i)) t) true
  take_well e = ap (λ b. require b WrongNodes (check_tree (change_at p (with_attrs (λ ats. remove ats i)) t) true)) e

  pub cut_not : (before after : Bool) → has_only_comments content ≡ false → remove_result before after (AtText p i) content t ≡ Err WrongNodes
  cut_not before after e = ap (λ b. require b WrongNodes (check_tree (change_at p (exchange_nodes i (suc i) []) t) true)) e

  pub cut_well : (before after : Bool) → has_only_comments content ≡ true → remove_result before after (AtText p i) content t ≡ check_tree (change_at p (exchange_nodes i (suc i) []) t) true
  cut_well before after e = ap (λ b. require b WrongNodes (check_tree (change_at p (exchange_nodes i (suc i) []) t) true)) e

module _ (before after : Bool) (p : List ℕ) (content : Content) (t : Tree) where
  abbrev remove_test : Bool → Bool → Bool → Result Tree OperationError
  remove_test below bare fits = require below RootTouched (require bare WrongNodes (require fits NoSpace (check_tree (cut_element before after p t) true)))

  pub remove_root : is_below_root p ≡ false → remove_result before after (AtElement p) content t ≡ Err RootTouched
  remove_root e = ap (λ b. remove_test b (has_only_comments content) (has_requested_space before after p t)) e

  pub remove_not : is_below_root p ≡ true → has_only_comments content ≡ false → remove_result before after (AtElement p) content t ≡ Err WrongNodes
  remove_not e bare = ap (λ b. remove_test b (has_only_comments content) (has_requested_space before after p t)) e ∙ ap (λ b. remove_test true b (has_requested_space before after p t)) bare

  pub remove_no_space : is_below_root p ≡ true → has_only_comments content ≡ true → has_requested_space before after p t ≡ false → remove_result before after (AtElement p) content t ≡ Err NoSpace
  remove_no_space e bare fits =
      ap (λ b. remove_test b (has_only_comments content) (has_requested_space before after p t)) e ∙ ap (λ b. remove_test true b (has_requested_space before after p t)) bare ∙ ap (remove_test true true) fits

  pub remove_well : is_below_root p ≡ true → has_only_comments content ≡ true → has_requested_space before after p t ≡ true → remove_result before after (AtElement p) content t ≡ check_tree (cut_element before after p t) true
  remove_well e bare fits =
      ap (λ b. remove_test b (has_only_comments content) (has_requested_space before after p t)) e ∙ ap (λ b. remove_test true b (has_requested_space before after p t)) bare ∙ ap (remove_test true true) fits

-- ---- the first attribute that passes a test, by its number

written_by : (f : Attr → Bool) (v : List ℕ) (ats : List Attr) → position_or_len f ats < length ats → set_first_value f v ats ≡ with_value_at (position_or_len f ats) v ats
written_by f v [] h = absurd (omega arith)
written_by f v (a ∷ ats) h = by (f a) (written_by f v ats) h
  where
    by : (b : Bool) → (position_or_len f ats < length ats → set_first_value f v ats ≡ with_value_at (position_or_len f ats) v ats)
        → cond (not b) (1 + position_or_len f ats) 0 < suc (length ats)
        → cond b (with_new_value v a ∷ ats) (a ∷ set_first_value f v ats) ≡ with_value_at (cond (not b) (1 + position_or_len f ats) 0) v (a ∷ ats)
    by true ih h = refl
    by false ih h =
        let more : suc (position_or_len f ats) ≡ 1 + position_or_len f ats = omega arith in
        ap (λ x. a ∷ x) (ih (omega arith)) ∙ ap (λ (n : ℕ). with_value_at n v (a ∷ ats)) more

removed_by : (f : Attr → Bool) (ats : List Attr) → position_or_len f ats < length ats → remove_first f ats ≡ remove ats (position_or_len f ats)
removed_by f [] h = absurd (omega arith)
removed_by f (a ∷ ats) h = by (f a) (removed_by f ats) h
  where
    by : (b : Bool) → (position_or_len f ats < length ats → remove_first f ats ≡ remove ats (position_or_len f ats))
        → cond (not b) (1 + position_or_len f ats) 0 < suc (length ats)
        → cond b ats (a ∷ remove_first f ats) ≡ remove (a ∷ ats) (cond (not b) (1 + position_or_len f ats) 0)
    by true ih h = refl
    by false ih h =
        let more : suc (position_or_len f ats) ≡ 1 + position_or_len f ats = omega arith in
        ap (λ x. a ∷ x) (ih (omega arith)) ∙ ap (λ (n : ℕ). remove (a ∷ ats) n) more

module _ (f : Attr → Bool) (i : ℕ) (ats : List Attr) (first : position f ats ≡ Some i) where
  parts : (nat_lt (position_or_len f ats) (length ats) ≡ true) × (position_or_len f ats ≡ i)
  parts = cond_some _ (position_or_len f ats) i first

  pub written_at : (v : List ℕ) → set_first_value f v ats ≡ with_value_at i v ats
  written_at v = written_by f v ats (ltb-true (position_or_len f ats) (length ats) parts.0) ∙ ap (λ (n : ℕ). with_value_at n v ats) parts.1

  pub removed_at : remove_first f ats ≡ remove ats i
  removed_at = removed_by f ats (ltb-true (position_or_len f ats) (length ats) parts.0) ∙ ap (λ (n : ℕ). remove ats n) parts.1

-- ---- attributes by a test, at a path

abbrev with_list : Tree → List Attr → Tree
with_list e ats = record e { attrs = ats }

agree_at : (p : List ℕ) (f g : Tree → Tree) (e t : Tree) → at p t ≡ Some e → f e ≡ g e → change_at p f t ≡ change_at p g t
agree_at p f g e t is same = sym (put_over-made p f e t is) ∙ ap (λ (w : Tree). put_over p w t) same ∙ put_over-made p g e t is

pub some_there : (o : Option Tree) (P : Tree → Type 0) → IsSomeAnd o P → (e : Tree) × (o ≡ Some e) × P e
some_there None P h = absurd h
some_there (Some e) P h = (e, refl, h)

module _ (c : List (List Decl)) (p q : List ℕ) (f : Attr → Bool) (i : ℕ) (content : Content) (t e : Tree) (same : p ≡ q) (is : at p t ≡ Some e) (first : position f e.attrs ≡ Some i) where
  pub replaced_by_number : replace_result c (AtAttr q f) content t ≡ set_attr_result p i content t
  replaced_by_number =
      ap (λ (x : List ℕ). replace_result c (AtAttr x f) content t) (sym same)
      ∙ (λ k. require_some (content_value content) WrongNodes (λ v. check_tree (agree_at p (with_attrs (set_first_value f v)) (with_attrs (with_value_at i v)) e t is (ap (with_list e) (written_at f i e.attrs first v)) k) true))

  pub removed_by_number : (before after : Bool) → remove_result before after (AtAttr q f) content t ≡ drop_attr_result p i content t
  removed_by_number before after =
      ap (λ (x : List ℕ). remove_result before after (AtAttr x f) content t) (sym same)
      ∙ (λ k. require (has_only_comments content) WrongNodes (check_tree (agree_at p (with_attrs (remove_first f)) (with_attrs (λ ats. remove ats i)) e t is (ap (with_list e) (removed_at f i e.attrs first)) k) true))
