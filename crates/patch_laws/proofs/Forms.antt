-- The diff document of change records has the form of one.
use Rattle.std.proofs.Common.{◌≡◌, ◌≢◌, ℕ, Bool, true, false, ◌&&◌, ◌||◌, List, [], ◌∷◌, bytes_eq, codes, refl, ap, ◌∙◌}
use Rattle.std.specs.List.{AllByRecursion, list_all}
use Rattle.xml_names.specs.Scopes.{bound_uri, xml_prefix}
use Rattle.xml_tree.specs.Tree.{Tree}
use Rattle.xml_names.specs.declared.names.Decl.{Decl}
use Rattle.edit_ops.specs.declared.change.Change.{Change}
use Rattle.edit_ops.specs.declared.change.Change.TheVariants.{CreateDocument, Insert, Replace, Remove, SetAttr, DropAttr, RemoveDocument}
use Rattle.edit_ops.specs.Notes.{Note, tag_after}
use Rattle.patch_rules.specs.Notices.{aggregate_documents, declares_prefix, diff, diff_uri, document, patching_documents, operations}
use Rattle.edit_ops.specs.DiffOperations.{operation, change_operation as told}
use Rattle.patch_rules.specs.Replay.{documents, has_diff_name, is_document, is_notice, is_operation, is_in_diff_namespace, is_body_unchanged}
use Rattle.patch_laws.specs.Premises.{scope_around_operations}
use Rattle.patch_laws.proofs.Prefixes.{both}
use Rattle.patch_laws.proofs.Wholes.{bound_notice, document_operations, documents_in, keep_at_once, keep_one_by_one, operation_ours, ours, top}

-- an operation's word, where its namespace is that of diff documents
told_form : (d : List ℕ) (bs : List Decl) (fresh : Bool) (ch : Change) (b : Bool) → b ≡ true
    → (bytes_eq (told d bs fresh ch).name.local (codes "add") && b || (bytes_eq (told d bs fresh ch).name.local (codes "replace") && b || bytes_eq (told d bs fresh ch).name.local (codes "remove") && b)) ≡ true
told_form d bs fresh (CreateDocument root) b e = e
told_form d bs fresh (Insert q j e) b h = rw h refl
told_form d bs fresh (Replace p e) b h = rw h refl
told_form d bs fresh (Remove p) b h = h
told_form d bs true (SetAttr q n v) b h = rw h refl
told_form d bs false (SetAttr q n v) b h = rw h refl
told_form d bs fresh (DropAttr q n) b h = h
told_form d bs fresh RemoveDocument b h = h

or_true : (a : Bool) → (a || true) ≡ true
or_true true = refl
or_true false = refl

module _ (d : List ℕ) (some : d ≢ []) (other : bytes_eq d xml_prefix ≡ false) where
  are_operations : (ns : List Note) → AllByRecursion (λ n. declares_prefix d n.bindings ≡ false) ns → list_all (is_operation (scope_around_operations d diff_uri)) (operations d ns) ≡ true
  are_operations [] h = refl
  are_operations (n ∷ ns) h =
      both (is_operation (scope_around_operations d diff_uri) (operation d n)) (list_all (is_operation (scope_around_operations d diff_uri)) (operations d ns))
      (told_form d n.bindings n.fresh n.change (is_in_diff_namespace (scope_around_operations d diff_uri) (operation d n)) (operation_ours d some other n h.0)) (are_operations ns h.1)

  is_document_of : (sel : List ℕ) (from to : ℕ) (ns : List Note) → AllByRecursion (λ n. declares_prefix d n.bindings ≡ false) ns
      → is_document (top d some other) (document d sel from to (operations d ns)) ≡ true
  is_document_of sel from to ns h =
      ap (λ os. is_body_unchanged (scope_around_operations d diff_uri) os || list_all (is_operation (scope_around_operations d diff_uri)) os) (document_operations d some other sel from to ns h)
      ∙ ap (λ b. is_body_unchanged (scope_around_operations d diff_uri) (operations d ns) || b) (are_operations ns h) ∙ or_true (is_body_unchanged (scope_around_operations d diff_uri) (operations d ns))

  one_by_one_form : (sel : List ℕ) (ns : List Note) → AllByRecursion (λ n. declares_prefix d n.bindings ≡ false) ns → list_all (is_document (top d some other)) (patching_documents d sel ns) ≡ true
  one_by_one_form sel [] h = refl
  one_by_one_form sel (n ∷ ns) h =
      both (is_document (top d some other) (document d sel n.previous n.next (operation d n ∷ []))) (list_all (is_document (top d some other)) (patching_documents d sel ns))
      (is_document_of sel n.previous n.next (n ∷ []) (h.0, tt)) (one_by_one_form sel ns h.1)

  at_once_form : (sel : List ℕ) (from : ℕ) (ns : List Note) → AllByRecursion (λ n. declares_prefix d n.bindings ≡ false) ns → list_all (is_document (top d some other)) (aggregate_documents d sel from ns) ≡ true
  at_once_form sel from [] h = refl
  at_once_form sel from (n ∷ ns) h = both (is_document (top d some other) (document d sel from (tag_after from (n ∷ ns)) (operations d (n ∷ ns)))) true (is_document_of sel from (tag_after from (n ∷ ns)) (n ∷ ns) h) refl

  by_documents : (root : List ℕ) (ds : List Tree) → documents (diff d root ds) ≡ ds → list_all (is_document (top d some other)) ds ≡ true → is_notice (diff d root ds) ≡ true
  by_documents root ds docs all =
      both (has_diff_name [] (codes "xcap-diff") (diff d root ds)) (list_all (is_document (top d some other)) (documents (diff d root ds))) (ours d some other (bound_uri (top d some other) d) (bound_notice d some other))
      (ap (list_all (is_document (top d some other))) docs ∙ all)

  pub is_notice_one_by_one : (root sel : List ℕ) (ns : List Note) → AllByRecursion (λ n. declares_prefix d n.bindings ≡ false) ns → is_notice (diff d root (patching_documents d sel ns)) ≡ true
  is_notice_one_by_one root sel ns h =
      by_documents root (patching_documents d sel ns) (documents_in d some other root (patching_documents d sel ns) (keep_one_by_one d some other sel ns)) (one_by_one_form sel ns h)

  pub is_notice_at_once : (root sel : List ℕ) (from : ℕ) (ns : List Note) → AllByRecursion (λ n. declares_prefix d n.bindings ≡ false) ns → is_notice (diff d root (aggregate_documents d sel from ns)) ≡ true
  is_notice_at_once root sel from ns h =
      by_documents root (aggregate_documents d sel from ns) (documents_in d some other root (aggregate_documents d sel from ns) (keep_at_once d some other sel from ns)) (at_once_form sel from ns h)
