-- A proper diff document has one outcome for a replica: its selectors are texts of Chars, to which
-- the grammar gives one meaning.
use Rattle.std.proofs.Common.{◌≡◌, ℕ, suc, ◌+◌, Bool, true, false, cond, List, [], ◌∷◌, ◌++◌, Option, Some, None, option_map, option_and_then, Result, Ok, Err, codes, refl, sym, ap, ◌∙◌}
use Rattle.std.specs.Str.{bytes_eq}
use Rattle.std.specs.Option.{option_map_or}
use Rattle.std.specs.Prelude.{find}
use Rattle.std.specs.List.{AllByRecursion, list_all}
use Rattle.xml_names.specs.Attributes.{has_qname}
use Rattle.xml_names.specs.Characters.{has_only_chars}
use Rattle.xml_tree.specs.Proper.{IsProperAttr, IsProperTree}
use Rattle.xml_tree.specs.Tree.{Tree, child_elements_of}
use Rattle.xml_names.specs.declared.names.Attr.{Attr}
use Rattle.xml_names.specs.declared.names.Decl.{Decl}
use Rattle.patch_rules.specs.PatchOperations.{OperationError, Directive, Prefix, Unlocated, apply_operation, apply_action, require_some, is_type_prefix_bound, is_known_attribute, locate, parse_operation_name, plain_value, accepts_form, action_by_name, require}
use Rattle.patch_rules.specs.Selectors.{IsSelectorReader, Reading}
use Rattle.patch_rules.specs.Replay.{ReplayAnswer, ReplayFault, ReplicaContents, Missing, Now, IsReplayOutcome, DocumentOutcome, WrongDocument, WrongTag, apply_operations, outcome_of_documents, outcome_by_previous_tag, change_outcome, replay_answer, outcome_of_document, documents, replica_tag, are_all_mine, has_diff_name, is_in_diff_namespace, with_operation_number, operation_count, operations_of_document, renewed_contents, replay_outcome, is_body_unchanged, and_then_replay, continue_unless_missing}
use Rattle.patch_rules.specs.readers.AppliedOperations.{selector_reading}
use Rattle.patch_laws.proofs.OnwardNotices.{kept_proper, kids_proper}
use Rattle.patch_laws.proofs.SelectorAnswers.{are_readings, one_reading}

-- ---- the selector of an operation is a text of Chars

found_chars : (f : Attr → Bool) (c : List (List Decl)) (ats : List Attr) (a : Attr) → AllByRecursion (IsProperAttr c) ats → find f ats ≡ Some a → has_only_chars a.value ≡ true
found_chars f c [] a h e = absurd (cc)
found_chars f c (b ∷ ats) a h e = by (f b) refl (found_chars f c ats a h.1)
  where
    by : (is : Bool) → f b ≡ is → (find f ats ≡ Some a → has_only_chars a.value ≡ true) → has_only_chars a.value ≡ true
    by true is rest = let same : b ≡ a = cc in ap (λ (x : Attr). has_only_chars x.value) (sym same) ∙ h.0.value
    by false is rest = rest (rw is at e)

value_of : (o : Option Attr) (v : List ℕ) → option_map (λ a. a.value) o ≡ Some v → (a : Attr) × (o ≡ Some a) × (a.value ≡ v)
value_of None v e = absurd (cc)
value_of (Some a) v e = (a, refl, cc)

selector_chars : (c : List (List Decl)) (o : Tree) (sel : List ℕ) → IsProperTree c o → plain_value (codes "sel") o.attrs ≡ Some sel → has_only_chars sel ≡ true
selector_chars c o sel h e =
    let a = value_of (find (has_qname (record { prefix = []; local = codes "sel" })) o.attrs) sel e in
    ap has_only_chars (sym a.2) ∙ found_chars (has_qname (record { prefix = []; local = codes "sel" })) (c ++ o.decls ∷ []) o.attrs a.0 h.0.attributes a.1

-- ---- equal continuations give equal results

given_alike : {A B : Type 0} (o : Option A) (w : OperationError) (k l : A → Result B OperationError) → ((x : A) → o ≡ Some x → k x ≡ l x) → require_some o w k ≡ require_some o w l
given_alike None w k l h = refl
given_alike (Some x) w k l h = h x refl

next_alike : {A B : Type 0} (r : Result A ReplayFault) (k l : A → Result B ReplayFault) → ((x : A) → k x ≡ l x) → and_then_replay r k ≡ and_then_replay r l
next_alike (Ok x) k l h = h x
next_alike (Err f) k l h = refl

turn_alike : (now : DocumentOutcome) (k l : ReplicaContents → Result (Option ReplicaContents) ReplayFault) → ((held : ReplicaContents) → k held ≡ l held) → continue_unless_missing now k ≡ continue_unless_missing now l
turn_alike Missing k l h = refl
turn_alike (Now held) k l h = h held

-- ---- by two readings of selectors, both of the grammar

-- an operation, by the reading of its selector
abbrev by_reading : List (List Decl) → Tree → Tree → Option Reading → Result Tree OperationError
by_reading c o t reading =
    let here = c ++ o.decls ∷ [] in
    require (list_all is_known_attribute o.attrs) Directive (
    require_some (option_and_then (λ w. action_by_name w (plain_value (codes "pos") o.attrs) (plain_value (codes "type") o.attrs) (plain_value (codes "ws") o.attrs)) (parse_operation_name o.name.local)) Directive (λ task.
    require_some reading Directive (λ selector.
    require (accepts_form task selector.ends) Directive (
    require_some (selector.means here) Prefix (λ s.
    require (is_type_prefix_bound here task) Prefix (
    require_some (locate s t) Unlocated (λ location.
    apply_action here task location o.content t)))))))

module _ (read other : List ℕ → Option Reading) (are : IsSelectorReader read) (others : IsSelectorReader other) where
  pub alike : (sel : List ℕ) → has_only_chars sel ≡ true → read sel ≡ other sel
  alike sel h = one_reading sel (read sel) (other sel) (are sel h) (others sel h)

  pub applied_alike : (c : List (List Decl)) (o t : Tree) → IsProperTree c o → apply_operation read c o t ≡ apply_operation other c o t
  applied_alike c o t h =
      given_alike (plain_value (codes "sel") o.attrs) Directive (λ sel. by_reading c o t (read sel)) (λ sel. by_reading c o t (other sel))
      (λ sel e. ap (by_reading c o t) (alike sel (selector_chars c o sel h e)))

  all_alike : (n : ℕ) (c : List (List Decl)) (os : List Tree) (t : Tree) → AllByRecursion (IsProperTree c) os → apply_operations read n c os t ≡ apply_operations other n c os t
  all_alike n c [] t h = refl
  all_alike n c (o ∷ os) t h =
      ap (λ r. and_then_replay (with_operation_number n r) (apply_operations read (suc n) c os)) (applied_alike c o t h.0)
      ∙ next_alike (with_operation_number n (apply_operation other c o t)) (apply_operations read (suc n) c os) (apply_operations other (suc n) c os) (λ x. all_alike (suc n) c os x h.1)

  changed_alike : (n : ℕ) (c : List (List Decl)) (os : List Tree) (tag : List ℕ) (held : ReplicaContents) → AllByRecursion (IsProperTree c) os → change_outcome read n c os tag held ≡ change_outcome other n c os tag held
  changed_alike n c os tag None h = refl
  changed_alike n c [] tag (Some x) h = refl
  changed_alike n c (o ∷ os) tag (Some x) h =
      ap (λ (r : Result Tree ReplayFault). cond (is_body_unchanged c (o ∷ os)) (Ok (Now (Some (tag, x.1)))) (and_then_replay r (λ t. Ok (Now (Some (tag, t)))))) (all_alike n c (o ∷ os) x.1 h)

  renewed_alike : (n : ℕ) (c : List (List Decl)) (os : List Tree) (tag : Option (List ℕ)) (held : ReplicaContents) → AllByRecursion (IsProperTree c) os → renewed_contents read n c os tag held ≡ renewed_contents other n c os tag held
  renewed_alike n c os None held h = refl
  renewed_alike n c os (Some tag) held h = changed_alike n c os tag held h

  tags_alike : (n : ℕ) (c : List (List Decl)) (os : List Tree) (previous new : Option (List ℕ)) (held : ReplicaContents) → AllByRecursion (IsProperTree c) os → outcome_by_previous_tag read n c os previous new held ≡ outcome_by_previous_tag other n c os previous new held
  tags_alike n c os None new held h = refl
  tags_alike n c os (Some previous) new held h =
      ap (λ (r : Result DocumentOutcome ReplayFault). cond (option_map_or (bytes_eq previous) (replica_tag held) false) r (Err (WrongTag (replica_tag held) previous))) (renewed_alike n c os new held h)

  document_alike : (n : ℕ) (c : List (List Decl)) (d : Tree) (held : ReplicaContents) → IsProperTree c d → outcome_of_document read n c d held ≡ outcome_of_document other n c d held
  document_alike n c d held h =
      let here = c ++ d.decls ∷ [] in
      tags_alike n here (operations_of_document c d) (plain_value (codes "previous-etag") d.attrs) (plain_value (codes "new-etag") d.attrs) held
      (kept_proper here (is_in_diff_namespace here) (child_elements_of d) (kids_proper here d.content h.1))

  all_taken_alike : (n : ℕ) (c : List (List Decl)) (ds : List Tree) (held : ReplicaContents) → AllByRecursion (IsProperTree c) ds → outcome_of_documents read n c ds held ≡ outcome_of_documents other n c ds held
  all_taken_alike n c [] held h = refl
  all_taken_alike n c (d ∷ ds) held h =
      let m = n + operation_count c d in
      ap (λ (r : Result DocumentOutcome ReplayFault). and_then_replay r (λ now. continue_unless_missing now (outcome_of_documents read m c ds))) (document_alike n c d held h.0)
      ∙ next_alike (outcome_of_document other n c d held) (λ now. continue_unless_missing now (outcome_of_documents read m c ds)) (λ now. continue_unless_missing now (outcome_of_documents other m c ds))
      (λ now. turn_alike now (outcome_of_documents read m c ds) (outcome_of_documents other m c ds) (λ x. all_taken_alike m c ds x h.1))

  pub replayed_alike : (is_mine : List ℕ → Bool) (notice : Tree) (held : ReplicaContents) → IsProperTree [] notice → replay_outcome read is_mine notice held ≡ replay_outcome other is_mine notice held
  replayed_alike is_mine notice held h =
      let here = notice.decls ∷ [] in
      ap (λ (r : Result (Option ReplicaContents) ReplayFault). cond (are_all_mine is_mine (documents notice)) (and_then_replay r (λ end. Ok (replay_answer (documents notice) held end))) (Err WrongDocument))
      (all_taken_alike 0 here (documents notice) held (kept_proper here (has_diff_name here (codes "document")) (child_elements_of notice) (kids_proper here notice.content h.1)))

-- ---- the outcome of a diff document

pub some_outcome : (is_mine : List ℕ → Bool) (notice : Tree) (held : ReplicaContents) → IsReplayOutcome is_mine notice held (replay_outcome selector_reading is_mine notice held)
some_outcome is_mine notice held = (selector_reading, are_readings, refl)

pub one_outcome : (is_mine : List ℕ → Bool) (notice : Tree) (held : ReplicaContents) (a b : Result (ReplayAnswer × ReplicaContents) ReplayFault) → IsProperTree [] notice → IsReplayOutcome is_mine notice held a → IsReplayOutcome is_mine notice held b → a ≡ b
one_outcome is_mine notice held a b h x y = x.2 ∙ replayed_alike x.0 y.0 x.1 y.1 is_mine notice held h ∙ sym y.2

-- an outcome that is stated by reading from left to right
pub replays : (is_mine : List ℕ → Bool) (notice : Tree) (held : ReplicaContents) (a : Result (ReplayAnswer × ReplicaContents) ReplayFault) → replay_outcome selector_reading is_mine notice held ≡ a → IsReplayOutcome is_mine notice held a
replays is_mine notice held a e = (selector_reading, are_readings, sym e)
