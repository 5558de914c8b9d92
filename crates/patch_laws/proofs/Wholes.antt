-- Whole diff documents bring a replica to the last tree and tag.
use Rattle.std.proofs.Common.{◌≡◌, ◌≢◌, ℕ, ◌+◌, Bool, true, false, List, [], ◌∷◌, ◌++◌, filter, Option, Some, None, bytes_eq, Ok, codes, decimal, refl, ap, ◌∙◌, append-nil}
use Rattle.std.specs.List.{AllByRecursion}
use Rattle.std.specs.Prelude.{unwrap_or}
use Rattle.std.proofs.lemmas.Slice.Eq.{bytes_eq-Decides}
use Rattle.xml_names.specs.Scopes.{bound_uri, declared_uri, xml_prefix}
use Rattle.xml_tree.specs.Tree.{Tree, child_elements, content_of_children as listed}
use Rattle.xml_names.specs.declared.names.Decl.{Decl}
use Rattle.edit_ops.specs.Changes.{edited}
use Rattle.edit_ops.specs.declared.change.Change.{Change}
use Rattle.edit_ops.specs.declared.change.Change.TheVariants.{CreateDocument, Insert, Replace, Remove, SetAttr, DropAttr, RemoveDocument}
use Rattle.edit_ops.specs.Notes.{AreNotesOf, Note, tag_after, tree_after}
use Rattle.patch_rules.specs.Notices.{aggregate_documents, declares_prefix, diff, diff_uri, document, patching_documents, operations}
use Rattle.edit_ops.specs.DiffOperations.{operation, change_operation as told}
use Rattle.patch_rules.specs.Replay.{ReplicaContents, Now, replay_answer, documents, are_all_mine, has_diff_name, is_in_diff_namespace, operation_count, operations_of_document, is_body_unchanged, and_then_replay, continue_unless_missing}
use Rattle.patch_rules.specs.readers.Replay.{outcome_of_documents, replay_outcome, outcome_of_document}
use Rattle.patch_laws.specs.Premises.{AreDiffableTrees, scope_around_operations}
use Rattle.patch_laws.specs.ReplayLaws.{answer_of_notes}
use Rattle.patch_laws.proofs.Changes.{all_applied_notes, first_told}
use Rattle.patch_laws.proofs.Prefixes.{both}

child_elements-listed : (es : List Tree) → child_elements (listed es) ≡ es
child_elements-listed [] = refl
child_elements-listed (e ∷ es) = ap (λ l. e ∷ l) (child_elements-listed es)

pub same_text : (t : List ℕ) → bytes_eq t t ≡ true
same_text t = (bytes_eq-Decides t t).1 refl

-- ---- operations

told_prefix : (d : List ℕ) (bs : List Decl) (fresh : Bool) (ch : Change) → (told d bs fresh ch).name.prefix ≡ d
told_prefix d bs fresh (CreateDocument root) = refl
told_prefix d bs fresh (Insert q j e) = refl
told_prefix d bs fresh (Replace p e) = refl
told_prefix d bs fresh (Remove p) = refl
told_prefix d bs true (SetAttr q n v) = refl
told_prefix d bs false (SetAttr q n v) = refl
told_prefix d bs fresh (DropAttr q n) = refl
told_prefix d bs fresh RemoveDocument = refl

pub told_decls : (d : List ℕ) (bs : List Decl) (fresh : Bool) (ch : Change) → (told d bs fresh ch).decls ≡ bs
told_decls d bs fresh (CreateDocument root) = refl
told_decls d bs fresh (Insert q j e) = refl
told_decls d bs fresh (Replace p e) = refl
told_decls d bs fresh (Remove p) = refl
told_decls d bs true (SetAttr q n v) = refl
told_decls d bs false (SetAttr q n v) = refl
told_decls d bs fresh (DropAttr q n) = refl
told_decls d bs fresh RemoveDocument = refl

-- no operation is `body-not-changed`
told_changes : (d : List ℕ) (bs : List Decl) (fresh : Bool) (ch : Change) → bytes_eq (told d bs fresh ch).name.local (codes "body-not-changed") ≡ false
told_changes d bs fresh (CreateDocument root) = refl
told_changes d bs fresh (Insert q j e) = refl
told_changes d bs fresh (Replace p e) = refl
told_changes d bs fresh (Remove p) = refl
told_changes d bs true (SetAttr q n v) = refl
told_changes d bs false (SetAttr q n v) = refl
told_changes d bs fresh (DropAttr q n) = refl
told_changes d bs fresh RemoveDocument = refl

pub operations_change : (c : List (List Decl)) (d : List ℕ) (ns : List Note) → is_body_unchanged c (operations d ns) ≡ false
operations_change c d [] = refl
operations_change c d (n ∷ []) = rw (told_changes d n.bindings n.fresh n.change) refl
operations_change c d (n ∷ m ∷ ns) = refl

not_declared : (d : List ℕ) (bs : List Decl) → declares_prefix d bs ≡ false → declared_uri bs d ≡ None
not_declared d [] h = refl
not_declared d (b ∷ bs) h = by (bytes_eq b.prefix d) refl (not_declared d bs)
  where
    by : (x : Bool) → bytes_eq b.prefix d ≡ x → (declares_prefix d bs ≡ false → declared_uri bs d ≡ None) → declared_uri (b ∷ bs) d ≡ None
    by true e rest = absurd (let z : true ≡ false = rw e at h in cc)
    by false e rest = rw (e, rest (rw e at h)) refl

module _ (d : List ℕ) (some : d ≢ []) (other : bytes_eq d xml_prefix ≡ false) where
  abbrev pub top : List (List Decl)
  top = (record { prefix = d; uri = diff_uri } ∷ []) ∷ []

  pub bound_operation : (bs : List Decl) → declares_prefix d bs ≡ false → bound_uri (scope_around_operations d diff_uri ++ bs ∷ []) d ≡ Some diff_uri
  bound_operation bs h = let none : declared_uri (bs ++ []) d ≡ None = ap (λ l. declared_uri l d) (append-nil bs) ∙ not_declared d bs h in rw (other, none, same_text d) refl

  pub bound_document : bound_uri (scope_around_operations d diff_uri) d ≡ Some diff_uri
  bound_document = rw (other, same_text d) refl

  pub bound_notice : bound_uri top d ≡ Some diff_uri
  bound_notice = rw (other, same_text d) refl

  pub ours : (o : Option (List ℕ)) → o ≡ Some diff_uri → bytes_eq (unwrap_or o []) diff_uri ≡ true
  ours o e = ap (λ x. bytes_eq (unwrap_or x []) diff_uri) e ∙ same_text diff_uri

  pub operation_ours : (n : Note) → declares_prefix d n.bindings ≡ false → is_in_diff_namespace (scope_around_operations d diff_uri) (operation d n) ≡ true
  operation_ours n h =
      ours (bound_uri (scope_around_operations d diff_uri ++ (operation d n).decls ∷ []) (operation d n).name.prefix)
      ((λ i. bound_uri (scope_around_operations d diff_uri ++ told_decls d n.bindings n.fresh n.change i ∷ []) (told_prefix d n.bindings n.fresh n.change i)) ∙ bound_operation n.bindings h)

  keep_operations : (ns : List Note) → AllByRecursion (λ n. declares_prefix d n.bindings ≡ false) ns → filter (is_in_diff_namespace (scope_around_operations d diff_uri)) (operations d ns) ≡ operations d ns
  keep_operations [] h = refl
  keep_operations (n ∷ ns) h = rw (operation_ours n h.0) (ap (λ l. operation d n ∷ l) (keep_operations ns h.1))

  pub document_operations : (sel : List ℕ) (from to : ℕ) (ns : List Note) → AllByRecursion (λ n. declares_prefix d n.bindings ≡ false) ns
      → operations_of_document top (document d sel from to (operations d ns)) ≡ operations d ns
  document_operations sel from to ns h = ap (filter (is_in_diff_namespace (scope_around_operations d diff_uri))) (child_elements-listed (operations d ns)) ∙ keep_operations ns h

  -- ---- documents

  pub document_called : (sel : List ℕ) (from to : ℕ) (os : List Tree) → has_diff_name top (codes "document") (document d sel from to os) ≡ true
  document_called sel from to os = ours (bound_uri (scope_around_operations d diff_uri) d) bound_document

  abbrev as_held : ℕ → Tree → ReplicaContents
  as_held tag t = Some (decimal tag, t)

  taken_document : (count from to : ℕ) (sel : List ℕ) (tag : ℕ) (t : Tree) (n : Note) (ns : List Note) → AllByRecursion (λ n. declares_prefix d n.bindings ≡ false) (n ∷ ns) → AreNotesOf tag t (n ∷ ns) → AreDiffableTrees t (n ∷ ns)
      → outcome_of_document count top (document d sel from to (operations d (n ∷ ns))) (as_held from t) ≡ Ok (Now (as_held to (tree_after t (n ∷ ns))))
  taken_document count from to sel tag t n ns free h told =
      rw (same_text (decimal from), document_operations sel from to (n ∷ ns) free, operations_change (scope_around_operations d diff_uri) d (n ∷ ns))
      (ap (λ r. and_then_replay r (λ u. Ok (Now (as_held to u)))) (all_applied_notes d diff_uri some count tag t (n ∷ ns) h told))

  taken_one_by_one : (count tag : ℕ) (sel : List ℕ) (t : Tree) (ns : List Note) → AllByRecursion (λ n. declares_prefix d n.bindings ≡ false) ns → AreNotesOf tag t ns → AreDiffableTrees t ns
      → outcome_of_documents count top (patching_documents d sel ns) (as_held tag t) ≡ Ok (Some (as_held (tag_after tag ns) (tree_after t ns)))
  taken_one_by_one count tag sel t [] free h told = refl
  taken_one_by_one count tag sel t (n ∷ ns) free h told =
      let first : outcome_of_document count top (document d sel n.previous n.next (operation d n ∷ [])) (as_held tag t) ≡ Ok (Now (as_held n.next (edited t n.change))) =
      ap (λ x. outcome_of_document count top (document d sel x n.next (operation d n ∷ [])) (as_held tag t)) (ap (λ (m : Note). m.previous) h.1)
      ∙ taken_document count tag n.next sel tag t n [] (free.0, tt) (h.0, h.1, tt) (told.0, first_told d diff_uri some (edited t n.change) ns told.1) in
      ap (λ r. and_then_replay r (λ now. continue_unless_missing now (outcome_of_documents (count + operation_count top (document d sel n.previous n.next (operation d n ∷ []))) top (patching_documents d sel ns)))) first
      ∙ taken_one_by_one (count + operation_count top (document d sel n.previous n.next (operation d n ∷ []))) n.next sel (edited t n.change) ns free.1 h.2 told.1

  taken_at_once : (tag : ℕ) (sel : List ℕ) (t : Tree) (ns : List Note) → AllByRecursion (λ n. declares_prefix d n.bindings ≡ false) ns → AreNotesOf tag t ns → AreDiffableTrees t ns
      → outcome_of_documents 0 top (aggregate_documents d sel tag ns) (as_held tag t) ≡ Ok (Some (as_held (tag_after tag ns) (tree_after t ns)))
  taken_at_once tag sel t [] free h told = refl
  taken_at_once tag sel t (n ∷ ns) free h told =
      let doc = document d sel tag (tag_after tag (n ∷ ns)) (operations d (n ∷ ns)) in
      ap (λ r. and_then_replay r (λ now. continue_unless_missing now (outcome_of_documents (0 + operation_count top doc) top [])))
      (taken_document 0 tag (tag_after tag (n ∷ ns)) sel tag t n ns free h told)

  -- ---- diff documents

  pub keep_one_by_one : (sel : List ℕ) (ns : List Note) → filter (has_diff_name top (codes "document")) (patching_documents d sel ns) ≡ patching_documents d sel ns
  keep_one_by_one sel [] = refl
  keep_one_by_one sel (n ∷ ns) =
      rw (document_called sel n.previous n.next (operation d n ∷ [])) (ap (λ l. document d sel n.previous n.next (operation d n ∷ []) ∷ l) (keep_one_by_one sel ns))

  pub keep_at_once : (sel : List ℕ) (tag : ℕ) (ns : List Note) → filter (has_diff_name top (codes "document")) (aggregate_documents d sel tag ns) ≡ aggregate_documents d sel tag ns
  keep_at_once sel tag [] = refl
  keep_at_once sel tag (n ∷ ns) = rw (document_called sel tag (tag_after tag (n ∷ ns)) (operations d (n ∷ ns))) refl

  pub documents_in : (root : List ℕ) (ds : List Tree) → filter (has_diff_name top (codes "document")) ds ≡ ds → documents (diff d root ds) ≡ ds
  documents_in root ds h = ap (filter (has_diff_name top (codes "document"))) (child_elements-listed ds) ∙ h

  mine_one_by_one : (is_mine : List ℕ → Bool) (sel : List ℕ) (ns : List Note) → is_mine sel ≡ true → are_all_mine is_mine (patching_documents d sel ns) ≡ true
  mine_one_by_one is_mine sel [] h = refl
  mine_one_by_one is_mine sel (n ∷ ns) h = both (is_mine sel) (are_all_mine is_mine (patching_documents d sel ns)) h (mine_one_by_one is_mine sel ns h)

  mine_at_once : (is_mine : List ℕ → Bool) (sel : List ℕ) (tag : ℕ) (ns : List Note) → is_mine sel ≡ true → are_all_mine is_mine (aggregate_documents d sel tag ns) ≡ true
  mine_at_once is_mine sel tag [] h = refl
  mine_at_once is_mine sel tag (n ∷ ns) h = both (is_mine sel) true h refl

  by_documents : (is_mine : List ℕ → Bool) (root : List ℕ) (ds : List Tree) (held new : ReplicaContents) → documents (diff d root ds) ≡ ds → are_all_mine is_mine ds ≡ true → outcome_of_documents 0 top ds held ≡ Ok (Some new)
      → replay_outcome is_mine (diff d root ds) held ≡ Ok (replay_answer ds held (Some new))
  by_documents is_mine root ds held new docs mine outcome_of_document = rw docs (rw mine (rw outcome_of_document refl))

  answered_one_by_one : (sel : List ℕ) (ns : List Note) (held : ReplicaContents) (tag : ℕ) (t : Tree) → replay_answer (patching_documents d sel ns) held (Some (as_held tag t)) ≡ (answer_of_notes ns, as_held tag t)
  answered_one_by_one sel [] held tag t = refl
  answered_one_by_one sel (n ∷ ns) held tag t = refl

  answered_at_once : (sel : List ℕ) (from : ℕ) (ns : List Note) (held : ReplicaContents) (tag : ℕ) (t : Tree) → replay_answer (aggregate_documents d sel from ns) held (Some (as_held tag t)) ≡ (answer_of_notes ns, as_held tag t)
  answered_at_once sel from [] held tag t = refl
  answered_at_once sel from (n ∷ ns) held tag t = refl

  pub replayed_one_by_one : (is_mine : List ℕ → Bool) (root sel : List ℕ) (tag : ℕ) (t : Tree) (ns : List Note) → is_mine sel ≡ true → AllByRecursion (λ n. declares_prefix d n.bindings ≡ false) ns → AreNotesOf tag t ns → AreDiffableTrees t ns
      → replay_outcome is_mine (diff d root (patching_documents d sel ns)) (as_held tag t) ≡ Ok (answer_of_notes ns, as_held (tag_after tag ns) (tree_after t ns))
  replayed_one_by_one is_mine root sel tag t ns mine free h told =
      by_documents is_mine root (patching_documents d sel ns) (as_held tag t) (as_held (tag_after tag ns) (tree_after t ns)) (documents_in root (patching_documents d sel ns) (keep_one_by_one sel ns))
      (mine_one_by_one is_mine sel ns mine) (taken_one_by_one 0 tag sel t ns free h told)
      ∙ ap (λ x. Ok x) (answered_one_by_one sel ns (as_held tag t) (tag_after tag ns) (tree_after t ns))

  pub replayed_at_once : (is_mine : List ℕ → Bool) (root sel : List ℕ) (tag : ℕ) (t : Tree) (ns : List Note) → is_mine sel ≡ true → AllByRecursion (λ n. declares_prefix d n.bindings ≡ false) ns → AreNotesOf tag t ns → AreDiffableTrees t ns
      → replay_outcome is_mine (diff d root (aggregate_documents d sel tag ns)) (as_held tag t) ≡ Ok (answer_of_notes ns, as_held (tag_after tag ns) (tree_after t ns))
  replayed_at_once is_mine root sel tag t ns mine free h told =
      by_documents is_mine root (aggregate_documents d sel tag ns) (as_held tag t) (as_held (tag_after tag ns) (tree_after t ns)) (documents_in root (aggregate_documents d sel tag ns) (keep_at_once sel tag ns))
      (mine_at_once is_mine sel tag ns mine) (taken_at_once tag sel t ns free h told)
      ∙ ap (λ x. Ok x) (answered_at_once sel tag ns (as_held tag t) (tag_after tag ns) (tree_after t ns))
