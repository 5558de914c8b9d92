-- What a diff document makes of a replica, or the first fault. RFC 5874, section 3, as far as it
-- is implemented here.
use Rattle.std.specs.Prelude.{◌≡◌, ℕ, suc, ◌+◌, Bool, false, ◌&&◌, ◌||◌, codes, List, [], ◌∷◌, ◌++◌}
use Rattle.std.specs.Prelude.{length, filter, Option, None, Some, is_some, unwrap_or, Result, Ok}
use Rattle.std.specs.Prelude.{Err, if◌then◌else◌}
use Rattle.std.specs.List.{list_all}
use Rattle.std.specs.Option.{option_map_or}
use Rattle.std.specs.Str.{bytes_eq}
use Rattle.xml_names.specs.ExpandedNames.{element_name}
use Rattle.xml_tree.specs.Tree.{Tree, child_elements_of}
use Rattle.xml_names.specs.declared.names.Decl.{Decl}
use Rattle.node_select.specs.Names.{has_expanded_name, uri_or_empty}
use Rattle.patch_rules.specs.PatchOperations.{OperationError, apply_operation, plain_value}
use Rattle.patch_rules.specs.Notices.{diff_uri}
use Rattle.patch_rules.specs.Selectors.{Reading, IsSelectorReader}

-- ---- the form of a diff document

-- an element has this name in the namespace of diff documents, in the scope around it; and it has
-- some name in that namespace
abbrev pub has_diff_name : List (List Decl) → List ℕ → Tree → Bool
has_diff_name c local e = has_expanded_name diff_uri local (element_name (c ++ e.decls ∷ []) e.name)

abbrev pub is_in_diff_namespace : List (List Decl) → Tree → Bool
is_in_diff_namespace c e =
    bytes_eq (uri_or_empty (element_name (c ++ e.decls ∷ []) e.name)) diff_uri

-- the documents of a diff document, and the operations of a document; other elements, texts and
-- comments are ignored
abbrev pub documents : Tree → List Tree
documents notice =
    filter (has_diff_name (notice.decls ∷ []) (codes "document")) (child_elements_of notice)

abbrev pub operations_of_document : List (List Decl) → Tree → List Tree
operations_of_document c document =
    filter (is_in_diff_namespace (c ++ document.decls ∷ [])) (child_elements_of document)

abbrev pub is_operation : List (List Decl) → Tree → Bool
is_operation c e =
    has_diff_name c (codes "add") e
    || (has_diff_name c (codes "replace") e || has_diff_name c (codes "remove") e)

-- one `body-not-changed` and nothing else
abbrev pub is_body_unchanged : List (List Decl) → List Tree → Bool
is_body_unchanged c [] = false
is_body_unchanged c (o ∷ []) = has_diff_name c (codes "body-not-changed") o
is_body_unchanged c (o ∷ p ∷ os) = false

-- a document has a `sel` and at least one tag; it has operations, or `body-not-changed`
abbrev pub is_document : List (List Decl) → Tree → Bool
is_document c d =
    let os = operations_of_document c d in
    is_some (plain_value (codes "sel") d.attrs)
    && ((is_some (plain_value (codes "new-etag") d.attrs)
    || is_some (plain_value (codes "previous-etag") d.attrs))
    && (is_body_unchanged (c ++ d.decls ∷ []) os || list_all (is_operation (c ++ d.decls ∷ [])) os))

-- a tree is a diff document
abbrev pub is_notice : Tree → Bool
is_notice t =
    has_diff_name [] (codes "xcap-diff") t
    && (is_some (plain_value (codes "xcap-root") t.attrs)
    && list_all (is_document (t.decls ∷ [])) (documents t))

-- ---- the contents of a replica, the answer of a diff document, and its faults

-- the tag and the tree of the document, where the replica has one
abbrev pub ReplicaContents : Type 0
ReplicaContents = Option (List ℕ × Tree)

pub data ReplayAnswer : Type 0 where
  Same : ReplayAnswer
  Patched : ReplayAnswer
  Removed : ReplayAnswer
  Fetch : List ℕ → ReplayAnswer

-- with the number of the operation, counted from 1 over the whole diff document, or with the
-- replica's tag and the tag that is wanted
pub data ReplayFault : Type 0 where
  WrongDocument : ReplayFault
  WrongTag : Option (List ℕ) → List ℕ → ReplayFault
  AtOperation : ℕ → OperationError → ReplayFault

-- ---- operations in order

-- the first operation that is wrong, by its number; n operations come before these
abbrev pub with_operation_number : {A : Type 0} → ℕ → Result A OperationError → Result A ReplayFault
with_operation_number n (Ok x) = Ok x
with_operation_number n (Err w) = Err (AtOperation (suc n) w)

abbrev pub and_then_replay : {A B : Type 0} → Result A ReplayFault → (A → Result B ReplayFault)
    → Result B ReplayFault
and_then_replay (Ok x) k = k x
and_then_replay (Err f) k = Err f

-- ---- documents in order

-- what one document makes of a replica; `Missing` where it changed and the operations aren't there
pub data DocumentOutcome : Type 0 where
  Now : ReplicaContents → DocumentOutcome
  Missing : DocumentOutcome

abbrev pub replica_tag : ReplicaContents → Option (List ℕ)
replica_tag None = None
replica_tag (Some h) = Some h.0

-- the number of a document's operations, where `body-not-changed` is none
abbrev pub operation_count : List (List Decl) → Tree → ℕ
operation_count c d =
    if is_body_unchanged (c ++ d.decls ∷ []) (operations_of_document c d) then 0
    else length (operations_of_document c d)

-- the last new tag among documents
abbrev pub last_new_tag : List ℕ → List Tree → List ℕ
last_new_tag tag [] = tag
last_new_tag tag (d ∷ ds) = last_new_tag (unwrap_or (plain_value (codes "new-etag") d.attrs) tag) ds

-- what all documents make of a replica: the first without its operations ends the reading, and
-- then there is no new replica, since the old one stays
abbrev pub continue_unless_missing : DocumentOutcome
    → (ReplicaContents → Result (Option ReplicaContents) ReplayFault)
    → Result (Option ReplicaContents) ReplayFault
continue_unless_missing Missing k = Ok None
continue_unless_missing (Now held) k = k held

-- ---- the whole diff document

abbrev pub replay_answer : List Tree → ReplicaContents → Option ReplicaContents
    → ReplayAnswer × ReplicaContents
replay_answer ds held None = (Fetch (last_new_tag [] ds), held)
replay_answer [] held (Some new) = (Same, new)
replay_answer (d ∷ ds) held (Some new) = (if is_some new then Patched else Removed, new)

-- whether each document is the replica's
abbrev pub are_all_mine : (List ℕ → Bool) → List Tree → Bool
are_all_mine is_mine ds =
    list_all (λ d. is_mine (unwrap_or (plain_value (codes "sel") d.attrs) [])) ds

-- ---- what operations, documents and diff documents make, where `read` gives the meaning of
-- selectors

module _ (read : List ℕ → Option Reading) where
  abbrev pub apply_operations : ℕ → List (List Decl) → List Tree → Tree → Result Tree ReplayFault
  apply_operations n c [] t = Ok t
  apply_operations n c (o ∷ os) t =
      and_then_replay (with_operation_number n (apply_operation read c o t))
      (apply_operations (suc n) c os)

  -- the document with the new tag: by its operations, with the same body, or unknown
  abbrev pub change_outcome : ℕ → List (List Decl) → List Tree → List ℕ → ReplicaContents
      → Result DocumentOutcome ReplayFault
  change_outcome n c os tag None = Ok Missing
  change_outcome n c [] tag (Some h) = Ok Missing
  change_outcome n c (o ∷ os) tag (Some h) =
      if is_body_unchanged c (o ∷ os) then Ok (Now (Some (tag, h.1)))
      else and_then_replay (apply_operations n c (o ∷ os) h.1) (λ t. Ok (Now (Some (tag, t))))

  -- a document with a new tag; without one the replica is empty afterwards, and its operations
  -- aren't looked at
  abbrev pub renewed_contents : ℕ → List (List Decl) → List Tree → Option (List ℕ) → ReplicaContents
      → Result DocumentOutcome ReplayFault
  renewed_contents n c os None held = Ok (Now None)
  renewed_contents n c os (Some tag) held = change_outcome n c os tag held

  -- the previous tag is the replica's; without it the change is unknown
  abbrev pub outcome_by_previous_tag : ℕ → List (List Decl) → List Tree → Option (List ℕ)
      → Option (List ℕ) → ReplicaContents → Result DocumentOutcome ReplayFault
  outcome_by_previous_tag n c os None new held = Ok Missing
  outcome_by_previous_tag n c os (Some previous) new held =
      if option_map_or (bytes_eq previous) (replica_tag held) false
      then renewed_contents n c os new held
      else Err (WrongTag (replica_tag held) previous)

  abbrev pub outcome_of_document : ℕ → List (List Decl) → Tree → ReplicaContents
      → Result DocumentOutcome ReplayFault
  outcome_of_document n c d held =
      outcome_by_previous_tag n (c ++ d.decls ∷ []) (operations_of_document c d)
      (plain_value (codes "previous-etag") d.attrs) (plain_value (codes "new-etag") d.attrs) held

  abbrev pub outcome_of_documents : ℕ → List (List Decl) → List Tree → ReplicaContents
      → Result (Option ReplicaContents) ReplayFault
  outcome_of_documents n c [] held = Ok (Some held)
  outcome_of_documents n c (d ∷ ds) held =
      and_then_replay (outcome_of_document n c d held) (λ now.
      continue_unless_missing now (outcome_of_documents (n + operation_count c d) c ds))

  -- the answer and the replica afterwards, or the first fault; `is_mine` decides whether a printed
  -- name is the name of the replica's document
  abbrev pub replay_outcome : (List ℕ → Bool) → Tree → ReplicaContents
      → Result (ReplayAnswer × ReplicaContents) ReplayFault
  replay_outcome is_mine notice held =
      if are_all_mine is_mine (documents notice)
      then and_then_replay (outcome_of_documents 0 (notice.decls ∷ []) (documents notice) held)
      (λ end.
      Ok (replay_answer (documents notice) held end))
      else Err WrongDocument

-- what the diff document makes of the replica, with its selectors read as the grammar says
abbrev pub IsReplayOutcome : (List ℕ → Bool) → Tree → ReplicaContents
    → Result (ReplayAnswer × ReplicaContents) ReplayFault → Type 0
IsReplayOutcome is_mine notice held outcome =
    (read : List ℕ → Option Reading) × IsSelectorReader read
    × (outcome ≡ replay_outcome read is_mine notice held)
