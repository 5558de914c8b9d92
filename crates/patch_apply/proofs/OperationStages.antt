-- The stages of an operation, one after another.
use Rattle.std.proofs.Common.{◌≡◌, ℕ, Bool, codes, true, false, List, [], ◌∷◌, ◌++◌, Option, None, Some, Result, Ok, Err, sym, ap, ◌∙◌, subst}
use Rattle.std.specs.List.{list_all}
use Rattle.xml_names.specs.ReadErrors.{ResultSatisfies}
use Rattle.xml_names.specs.declared.read_error.ReadError.{ReadError}
use Rattle.xml_names.specs.declared.read_error.ReadError.TheVariants.{Fault, NoMemory}
use Rattle.xml_tree.specs.Tree.{Tree}
use Rattle.xml_names.specs.declared.names.Attr.{Attr}
use Rattle.xml_names.specs.declared.names.Decl.{Decl}
use Rattle.node_select.specs.declared.selector.PatchSelector.{PatchSelector}
use Rattle.patch_rules.specs.PatchOperations.{OperationError, Directive, Prefix, Unlocated, PatchAction, apply_action, require_some, is_type_prefix_bound, is_known_attribute, locate, plain_value, accepts_form, require, locate_and_apply, operation_action, apply_by_reading}
use Rattle.patch_rules.specs.readers.AppliedOperations.{apply_operation, selector_reading, apply_selected}
use Rattle.patch_parse.specs.Views.{IsPartResult}
use Rattle.patch_apply.specs.inner.Results.{IsEditResult}
use Rattle.patch_parse.specs.Operations.{checked_selector}
use Rattle.patch_parse.specs.Views.{error_view}
use Rattle.patch_parse.specs.declared.operation_error.OperationError.{OperationError as CodeWrong}

-- `IsEditResult` also holds of an equal stated result
pub edits_same : (a b : Result Tree OperationError) (new : Tree) (r : Result (Unit {0}) (ReadError CodeWrong)) → a ≡ b → ResultSatisfies (IsEditResult a new) r → ResultSatisfies (IsEditResult b new) r
edits_same a b new r same h = subst (λ s. ResultSatisfies (IsEditResult s new) r) same h

-- an attribute without prefix, where its name is a literal of the code
pub plain_is : (w v : List ℕ) (attrs require_some : List Attr) (o : Option (List ℕ)) → w ≡ v → require_some ≡ attrs → o ≡ plain_value w require_some → plain_value v attrs ≡ o
plain_is w v attrs require_some o word same is = ap (λ (x : List ℕ). plain_value x attrs) (sym word) ∙ ap (plain_value w) (sym same) ∙ sym is

-- ---- tests one after another

module _ {F S A : Type 0} (mean : F → Option S) (k : S → Result A OperationError) where
  last_ok : (suit : Bool) (o : Option S) (bound : Bool) (s : S) → require suit Directive (require_some o Prefix (λ x. require bound Prefix (Ok x))) ≡ Ok s → require suit Directive (require_some o Prefix (λ x. require bound Prefix (k x))) ≡ k s
  last_ok false o bound s e = absurd (cc)
  last_ok true None bound s e = absurd (cc)
  last_ok true (Some x) false s e = absurd (cc)
  last_ok true (Some x) true s e = let same : x ≡ s = cc in ap k same

  last_err : (suit : Bool) (o : Option S) (bound : Bool) (w : OperationError) → require suit Directive (require_some o Prefix (λ x. require bound Prefix (Ok x))) ≡ Err w → require suit Directive (require_some o Prefix (λ x. require bound Prefix (k x))) ≡ Err w
  last_err false o bound w e = let same : Directive ≡ w = cc in ap Err same
  last_err true None bound w e = let same : Prefix ≡ w = cc in ap Err same
  last_err true (Some x) false w e = let same : Prefix ≡ w = cc in ap Err same
  last_err true (Some x) true w e = absurd (cc)

  pub goes_on : (o : Option F) (suit : F → Bool) (bound : Bool) (s : S) → require_some o Directive (λ f. require (suit f) Directive (require_some (mean f) Prefix (λ x. require bound Prefix (Ok x)))) ≡ Ok s
      → require_some o Directive (λ f. require (suit f) Directive (require_some (mean f) Prefix (λ x. require bound Prefix (k x)))) ≡ k s
  goes_on None suit bound s e = absurd (cc)
  goes_on (Some f) suit bound s e = last_ok (suit f) (mean f) bound s e

  pub ends : (o : Option F) (suit : F → Bool) (bound : Bool) (w : OperationError) → require_some o Directive (λ f. require (suit f) Directive (require_some (mean f) Prefix (λ x. require bound Prefix (Ok x)))) ≡ Err w
      → require_some o Directive (λ f. require (suit f) Directive (require_some (mean f) Prefix (λ x. require bound Prefix (k x)))) ≡ Err w
  ends None suit bound w e = let same : Directive ≡ w = cc in ap Err same
  ends (Some f) suit bound w e = last_err (suit f) (mean f) bound w e

-- ---- an operation

module _ (here : List (List Decl)) (sel : List ℕ) (o t : Tree) where
  abbrev next : PatchAction → PatchSelector → Result Tree OperationError
  next task s = locate_and_apply here task s o.content t

  abbrev with_action : PatchAction → Result Tree OperationError
  with_action task = require_some (selector_reading sel) Directive (λ reading. apply_by_reading here task reading o.content t)

  -- without a patch action
  pub said_nothing : operation_action o.name o.attrs ≡ None → apply_selected here sel o t ≡ Err Directive
  said_nothing e = ap (λ (x : Option PatchAction). require_some x Directive with_action) e

  said_some : (task : PatchAction) → operation_action o.name o.attrs ≡ Some task → apply_selected here sel o t ≡ with_action task
  said_some task e = ap (λ (x : Option PatchAction). require_some x Directive with_action) e

  -- with a selector that is refused
  pub said_refused : (task : PatchAction) (w : OperationError) → operation_action o.name o.attrs ≡ Some task → checked_selector here sel task ≡ Err w → apply_selected here sel o t ≡ Err w
  said_refused task w e refused =
      said_some task e ∙ ends (λ r. r.means here) (next task) (selector_reading sel) (λ r. accepts_form task r.ends) (is_type_prefix_bound here task) w refused

  -- with a selector that is accepted
  pub said_next : (task : PatchAction) (s : PatchSelector) → operation_action o.name o.attrs ≡ Some task → checked_selector here sel task ≡ Ok s → apply_selected here sel o t ≡ locate_and_apply here task s o.content t
  said_next task s e tests = said_some task e ∙ goes_on (λ r. r.means here) (next task) (selector_reading sel) (λ r. accepts_form task r.ends) (is_type_prefix_bound here task) s tests

  -- a call that refuses the selector refuses the operation
  pub said_error : (task : PatchAction) (error : ReadError CodeWrong) (new : Tree) → operation_action o.name o.attrs ≡ Some task → ResultSatisfies (IsPartResult {X = PatchSelector} (checked_selector here sel task)) (Err error)
      → ResultSatisfies (IsEditResult (apply_selected here sel o t) new) (Err error)
  said_error task (Fault wrong) new e h = said_refused task (error_view wrong) e h
  said_error task NoMemory new e h = tt

-- ---- the whole operation, in the scope around it

module _ (c : List (List Decl)) (o t : Tree) where
  abbrev rest : List ℕ → Result Tree OperationError
  rest sel = require (list_all is_known_attribute o.attrs) Directive (apply_selected (c ++ o.decls ∷ []) sel o t)

  pub without_selector : plain_value (codes "sel") o.attrs ≡ None → apply_operation c o t ≡ Err Directive
  without_selector e = ap (λ (x : Option (List ℕ)). require_some x Directive rest) e

  pub unknown_attrs : (sel : List ℕ) → plain_value (codes "sel") o.attrs ≡ Some sel → list_all is_known_attribute o.attrs ≡ false → apply_operation c o t ≡ Err Directive
  unknown_attrs sel e unknown = ap (λ (x : Option (List ℕ)). require_some x Directive rest) e ∙ ap (λ b. require b Directive (apply_selected (c ++ o.decls ∷ []) sel o t)) unknown

  pub known_attrs : (sel : List ℕ) → plain_value (codes "sel") o.attrs ≡ Some sel → list_all is_known_attribute o.attrs ≡ true → apply_operation c o t ≡ apply_selected (c ++ o.decls ∷ []) sel o t
  known_attrs sel e known = ap (λ (x : Option (List ℕ)). require_some x Directive rest) e ∙ ap (λ b. require b Directive (apply_selected (c ++ o.decls ∷ []) sel o t)) known
