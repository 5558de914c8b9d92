-- Operations and documents, one after another.
use Rattle.std.proofs.Common.{◌≡◌, Bor, ℕ, zero, suc, ◌+◌, ◌<◌, min, List, [], ◌∷◌, length, map, get_or, drop, Option, Result, Ok, Err, refl, sym, ap, ◌∙◌, subst, add-one, arith}
use Rattle.xml_names.specs.ReadErrors.{ResultSatisfies}
use Rattle.xml_names.specs.declared.read_error.ReadError.{ReadError}
use Rattle.xml_names.specs.declared.read_error.ReadError.TheVariants as errors
use Rattle.xml_names.specs.Limits.{u64_max}
use Rattle.xml_tree.specs.Tree.{Tree}
use Rattle.xml_names.specs.declared.names.Decl.{Decl}
use Rattle.patch_rules.specs.PatchOperations.{OperationError}
use Rattle.patch_rules.specs.readers.AppliedOperations.{apply_operation}
use Rattle.patch_rules.specs.Replay.{AtOperation, ReplayFault, ReplicaContents, Now, DocumentOutcome, with_operation_number, operation_count, and_then_replay, continue_unless_missing}
use Rattle.patch_rules.specs.readers.Replay.{apply_operations, outcome_of_documents, outcome_of_document}
use Rattle.patch_apply.specs.inner.Results.{IsDocumentsResult}
use Rattle.patch_apply.specs.Views.{operation_fault}
use Rattle.patch_parse.specs.Views.{error_view}
use Rattle.patch_apply.specs.inner.OutcomeViews.{fault_of_operation}
use Rattle.patch_apply.specs.declared.fault.ApplyFault.{ApplyFault}
use Rattle.patch_parse.specs.declared.operation_error.OperationError.{OperationError as CodeWrong}
use Rattle.patch_parse.specs.declared.operation_error.OperationError.TheVariants as wrongs

-- ---- operations

module _ (n : ℕ) (c : List (List Decl)) (o : Tree) (os : List Tree) (t : Tree) where
  pub applied_next : (made : Tree) → apply_operation c o t ≡ Ok made → apply_operations n c (o ∷ os) t ≡ apply_operations (suc n) c os made
  applied_next made e = ap (λ r. and_then_replay (with_operation_number n r) (apply_operations (suc n) c os)) e

-- ---- documents

module _ (n : ℕ) (c : List (List Decl)) (d : Tree) (ds : List Tree) (held : ReplicaContents) where
  pub taken_next : (now : ReplicaContents) → outcome_of_document n c d held ≡ Ok (Now now) → outcome_of_documents n c (d ∷ ds) held ≡ outcome_of_documents (n + operation_count c d) c ds now
  taken_next now e = ap (λ r. and_then_replay r (λ turn. continue_unless_missing turn (outcome_of_documents (n + operation_count c d) c ds))) e

  pub taken_fault : (f : ReplayFault) → outcome_of_document n c d held ≡ Err f → outcome_of_documents n c (d ∷ ds) held ≡ Err f
  taken_fault f e = ap (λ r. and_then_replay r (λ turn. continue_unless_missing turn (outcome_of_documents (n + operation_count c d) c ds))) e

-- ---- an item of a list that is iterated over

pub item_here : (xs : List (Bor Tree)) (i : ℕ) (x : Bor Tree) → i < length xs → x ≡ get_or xs i x → map (λ y. y.now) (drop i xs) ≡ x.now ∷ map (λ y. y.now) (drop (suc i) xs)
item_here [] i x h is = absurd (omega arith)
item_here (y ∷ xs) zero x h is = ap (λ (z : Bor Tree). z.now ∷ map (λ w. w.now) xs) (sym is)
item_here (y ∷ xs) (suc i) x h is = item_here xs i x (omega arith) is

pub item_now : (xs : List (Bor Tree)) (i : ℕ) (x : Bor Tree) → i < length xs → x ≡ get_or xs i x → map (λ y. y.now) (drop i xs) ≡ x.now ∷ map (λ y. y.now) (drop (i + 1) xs)
item_now xs i x h is = rw add-one (item_here xs i x h is)

pub some_item : (xs : List (Bor Tree)) → 0 < length xs → 0 < length (map (λ y. y.now) xs)
some_item [] some = absurd (omega arith)
some_item (y ∷ xs) some = omega arith

-- ---- how a fault is reported

pub told_at : (n : ℕ) (w : CodeWrong) → fault_of_operation (min n u64_max) w ≡ operation_fault n (error_view w)
told_at n wrongs.Directive = refl
told_at n wrongs.Prefix = refl
told_at n wrongs.Unlocated = refl
told_at n wrongs.RootTouched = refl
told_at n wrongs.WrongNodes = refl
told_at n wrongs.NoSpace = refl

-- one operation more
pub one_more : (number m : ℕ) → number ≡ min m u64_max → min (number + 1) u64_max ≡ min (suc m) u64_max
one_more number m e = omega (arith, e)

-- `count` operations more
pub so_many : (before count n k : ℕ) → before ≡ min n u64_max → count ≡ k → min (before + count) u64_max ≡ min (n + k) u64_max
so_many before count n k e is = omega (arith, e, is)

-- `IsDocumentsResult` also holds of an equal stated result
pub tells_same : {X Y : Type 0} (view : X → Y) (a b : Result Y ReplayFault) (r : Result X (ReadError ApplyFault)) → a ≡ b → ResultSatisfies (IsDocumentsResult view a) r → ResultSatisfies (IsDocumentsResult view b) r
tells_same view a b r same h = subst (λ s. ResultSatisfies (IsDocumentsResult view s) r) same h

pub error_alike : {X Z Y : Type 0} (v : X → Y) (u : Z → Y) (a b : Result Y ReplayFault) (e : ReadError ApplyFault) → a ≡ b → ResultSatisfies (IsDocumentsResult v a) (Err e) → ResultSatisfies (IsDocumentsResult u b) (Err e)
error_alike v u a b (errors.Fault fault) same h = record { stated_fault = h.stated_fault; is = sym same ∙ h.is; told = h.told }
error_alike v u a b errors.NoMemory same h = tt

-- the error of an operation is reported with its number
pub wrong_told : (n : ℕ) (stated : Result Tree OperationError) (w : CodeWrong) (told : ApplyFault) → stated ≡ Err (error_view w) → told ≡ fault_of_operation (min (suc n) u64_max) w → ResultSatisfies (IsDocumentsResult {X = Tree} (λ t. t) (with_operation_number n stated)) (Err (errors.Fault told))
wrong_told n stated w told is same = record { stated_fault = AtOperation (suc n) (error_view w); is = ap (with_operation_number n) is; told = same ∙ told_at (suc n) w }

-- a fault of a document ends the documents after it
pub turn_fault : {X Z : Type 0} (v : X → DocumentOutcome) (u : Z → Option ReplicaContents) (n : ℕ) (c : List (List Decl)) (d : Tree) (ds : List Tree) (held : ReplicaContents) (all : Result (Option ReplicaContents) ReplayFault) (e : ReadError ApplyFault)
    → all ≡ outcome_of_documents n c (d ∷ ds) held → ResultSatisfies (IsDocumentsResult v (outcome_of_document n c d held)) (Err e) → ResultSatisfies (IsDocumentsResult u all) (Err e)
turn_fault v u n c d ds held all (errors.Fault fault) same h = record { stated_fault = h.stated_fault; is = same ∙ taken_fault n c d ds held h.stated_fault h.is; told = h.told }
turn_fault v u n c d ds held all errors.NoMemory same h = tt

-- a fault ends what comes after it
pub fault_ends : {X Y Z W : Type 0} (v : X → Y) (u : Z → W) (a : Result Y ReplayFault) (k : Y → Result W ReplayFault) (e : ReadError ApplyFault) → ResultSatisfies (IsDocumentsResult v a) (Err e) → ResultSatisfies (IsDocumentsResult u (and_then_replay a k)) (Err e)
fault_ends v u a k (errors.Fault fault) h = record { stated_fault = h.stated_fault; is = ap (λ r. and_then_replay r k) h.is; told = h.told }
fault_ends v u a k errors.NoMemory h = tt
