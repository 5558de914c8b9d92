-- What is done at a location, where the code has it by its number.
use Rattle.std.proofs.Common.{◌≡◌, ℕ, Bool, List, [], Some, IsSome, Result, sym, subst}
use Rattle.std.specs.List.{position}
use Rattle.xml_names.specs.ReadErrors.{ResultSatisfies}
use Rattle.xml_names.specs.declared.read_error.ReadError.{ReadError}
use Rattle.xml_tree.specs.Tree.{Content, Tree, at}
use Rattle.xml_names.specs.declared.names.Decl.{Decl}
use Rattle.patch_rules.specs.PatchOperations as words
use Rattle.patch_rules.specs.PatchOperations.{location_path, remove_result, replace_result}
use Rattle.patch_apply.specs.inner.Results.{IsEditResult}
use Rattle.patch_apply.specs.inner.LocationViews.{IsSameLocation, LocationExists, path_of_location}
use Rattle.patch_apply.specs.inner.ActionResults.{drop_attr_result, set_attr_result}
use Rattle.patch_parse.specs.declared.operation_error.OperationError.{OperationError}
use Rattle.patch_apply.specs.declared.locations.Location.{Location}
use Rattle.patch_apply.specs.declared.locations.Location.TheVariants.{AtElement, AtAttr, AtText}
use Rattle.patch_apply.proofs.Depths.{some_if}
use Rattle.patch_apply.proofs.ActionResults.{removed_by_number, replaced_by_number, some_there}
use Rattle.patch_apply.proofs.OperationStages.{edits_same}

-- the element of a location is in the tree
pub spot_there : (t : Tree) (s : Location) → LocationExists t s → IsSome (at (path_of_location s) t)
spot_there t (AtElement p) h = h
spot_there t (AtAttr p i) h = some_if (at p t) _ h
spot_there t (AtText p i) h = some_if (at p t) _ h

pub path_same : (t : Tree) (s : Location) (w : words.Location) → IsSameLocation t s w → path_of_location s ≡ location_path w
path_same t (AtElement p) (words.AtElement q) is = is
path_same t (AtElement p) (words.AtAttr q f) is = absurd is
path_same t (AtElement p) (words.AtText q j) is = absurd is
path_same t (AtAttr p i) (words.AtElement q) is = absurd is
path_same t (AtAttr p i) (words.AtAttr q f) is = is.0
path_same t (AtAttr p i) (words.AtText q j) is = absurd is
path_same t (AtText p i) (words.AtElement q) is = absurd is
path_same t (AtText p i) (words.AtAttr q f) is = absurd is
path_same t (AtText p i) (words.AtText q j) is = is.0

module _ (c : List (List Decl)) (p : List ℕ) (content : Content) (t new : Tree) (r : Result (Unit {0}) (ReadError OperationError)) where
  pub replace_element_at : ResultSatisfies (IsEditResult (replace_result c (words.AtElement p) content t) new) r → (w : words.Location) → IsSameLocation t (AtElement p) w → ResultSatisfies (IsEditResult (replace_result c w content t) new) r
  replace_element_at h (words.AtElement q) is = subst (λ (x : List ℕ). ResultSatisfies (IsEditResult (replace_result c (words.AtElement x) content t) new) r) is h
  replace_element_at h (words.AtAttr q f) is = absurd is
  replace_element_at h (words.AtText q j) is = absurd is

  pub replace_attr_at : (i : ℕ) → ResultSatisfies (IsEditResult (set_attr_result p i content t) new) r → (w : words.Location) → IsSameLocation t (AtAttr p i) w → ResultSatisfies (IsEditResult (replace_result c w content t) new) r
  replace_attr_at i h (words.AtElement q) is = absurd is
  replace_attr_at i h (words.AtAttr q f) is =
      let x = some_there (at p t) (λ e. position f e.attrs ≡ Some i) is.1 in edits_same _ _ new r (sym (replaced_by_number c p q f i content t x.0 is.0 x.1 x.2)) h
  replace_attr_at i h (words.AtText q j) is = absurd is

  pub replace_text_at : (i : ℕ) → ResultSatisfies (IsEditResult (replace_result c (words.AtText p i) content t) new) r → (w : words.Location) → IsSameLocation t (AtText p i) w → ResultSatisfies (IsEditResult (replace_result c w content t) new) r
  replace_text_at i h (words.AtElement q) is = absurd is
  replace_text_at i h (words.AtAttr q f) is = absurd is
  replace_text_at i h (words.AtText q j) is =
      subst (λ (x : List ℕ). ResultSatisfies (IsEditResult (replace_result c (words.AtText x j) content t) new) r) is.0 (subst (λ (n : ℕ). ResultSatisfies (IsEditResult (replace_result c (words.AtText p n) content t) new) r) is.1 h)

module _ (before after : Bool) (p : List ℕ) (content : Content) (t new : Tree) (r : Result (Unit {0}) (ReadError OperationError)) where
  pub remove_element_at : ResultSatisfies (IsEditResult (remove_result before after (words.AtElement p) content t) new) r → (w : words.Location) → IsSameLocation t (AtElement p) w → ResultSatisfies (IsEditResult (remove_result before after w content t) new) r
  remove_element_at h (words.AtElement q) is = subst (λ (x : List ℕ). ResultSatisfies (IsEditResult (remove_result before after (words.AtElement x) content t) new) r) is h
  remove_element_at h (words.AtAttr q f) is = absurd is
  remove_element_at h (words.AtText q j) is = absurd is

  pub remove_attr_at : (i : ℕ) → ResultSatisfies (IsEditResult (drop_attr_result p i content t) new) r → (w : words.Location) → IsSameLocation t (AtAttr p i) w → ResultSatisfies (IsEditResult (remove_result before after w content t) new) r
  remove_attr_at i h (words.AtElement q) is = absurd is
  remove_attr_at i h (words.AtAttr q f) is =
      let x = some_there (at p t) (λ e. position f e.attrs ≡ Some i) is.1 in edits_same _ _ new r (sym (removed_by_number [] p q f i content t x.0 is.0 x.1 x.2 before after)) h
  remove_attr_at i h (words.AtText q j) is = absurd is

  pub remove_text_at : (i : ℕ) → ResultSatisfies (IsEditResult (remove_result before after (words.AtText p i) content t) new) r → (w : words.Location) → IsSameLocation t (AtText p i) w → ResultSatisfies (IsEditResult (remove_result before after w content t) new) r
  remove_text_at i h (words.AtElement q) is = absurd is
  remove_text_at i h (words.AtAttr q f) is = absurd is
  remove_text_at i h (words.AtText q j) is =
      subst (λ (x : List ℕ). ResultSatisfies (IsEditResult (remove_result before after (words.AtText x j) content t) new) r) is.0 (subst (λ (n : ℕ). ResultSatisfies (IsEditResult (remove_result before after (words.AtText p n) content t) new) r) is.1 h)
